-- Steps that a master's invariant does not see: writes to other sets, to the heads of its live records, and of a live record's entry whose key stays. Marks, keys,
-- synonym words, leading words and unused records are then as they were. So placing a line and unlinking one keep the invariant of the path's master.
use Rattle.std.specs.Prelude.{◌≡◌, refl, ◌≢◌, List, [], ◌∷◌, Bool, true, false, cond, ℕ, ◌+◌, ◌≤◌, length, eqb}
use Rattle.std.proofs.Common.{ap, ◌∙◌, inl, inr, arith}
use Rattle.std.proofs.Math.Logic.{Ne-symm}
use Rattle.std.proofs.Math.Decide.{ℕ_discrete}
use Rattle.spec.specs.declared.Shape.{Shape}
use Rattle.spec.specs.declared.Head.{Head}
use Rattle.spec.specs.declared.Links.{Links}
use Rattle.spec.specs.declared.Master.{Master}
use Rattle.spec.specs.declared.Path.{Path}
use Rattle.spec.specs.declared.Spot.{Spot}
use Rattle.spec.specs.Area.{Area, value, put_entry_at}
use Rattle.spec.specs.Detail.{link_in, link_out}
use Rattle.history.specs.Chain.{All, ◌⨾◌, all_map}
use Rattle.history.specs.Shapes.{Sane, Beside, In}
use Rattle.history.specs.Spots.{set_of, held, val, alive, held_part, lead, flag, cell}
use Rattle.history.specs.Writes.{Value, Write, say, target, one, many, put}
use Rattle.history.specs.Apart.{Misses, by_set, by_kind, by_place, by_record, by_test}
use Rattle.history.specs.Shown.{gives_put, here}
use Rattle.history.specs.Reads.{alive_in}
use Rattle.history.specs.Writers.{Ran, start, by_put_entry, ran_length, ran_held, ran_val, ran_alive, shows_held}
use Rattle.history.specs.Sets.{MasterOk, PathOk}
use Rattle.history.specs.Steps.{entry_fit, link_in_run, link_out_run}
use Rattle.history.specs.Stores.{entries, heads}
use Rattle.history.specs.MasterInv.{MasterInv, master_same}
use Rattle.history.specs.MasterParts.{Own, own_run}
use Rattle.history.specs.MasterShift.{live_other}

-- ---- writes to heads and to other sets

-- what a write leaves of a master
pub record Unseen (m : Master) (a : Area) (w : Write) : Type 0 where
  pub leads : (i : ℕ) → Misses w (lead m.shape i)
  pub flags : (r : ℕ) → Misses w (flag m.shape r)
  pub synonyms : (r i n : ℕ) → i + n ≤ 5 → Misses w (cell m.shape r i n)
  pub entry : (r i n : ℕ) → m.shape.front ≤ i → Misses w (cell m.shape r i n)
  pub unused : (r i n : ℕ) → alive a m.shape r ≡ false → Misses w (cell m.shape r i n)

pub unseen_beside : {m : Master} {a : Area} {w : Write} → Beside (set_of (target w)) m.shape → Unseen m a w
unseen_beside B = record { leads = λ i. by_set B; flags = λ r. by_set B; synonyms = λ r i n h. by_set B; entry = λ r i n h. by_set B; unused = λ r i n h. by_set B }

module _ {size : ℕ} {m : Master} (S : Sane size m.shape) {a : Area} where
  pub unseen_head : {r i : ℕ} {u : Value} → alive a m.shape r ≡ true → 5 ≤ i → i + length (say u) ≤ m.shape.front → Unseen m a (put m.shape r i u)
  unseen_head {r} {i} {u} l p q = record {
    leads = λ j. by_kind S refl tt;
    flags = λ k. by_kind S refl tt;
    synonyms = λ k j n h. by_place (inr (omega arith));
    entry = λ k j n h. by_place (inl (omega arith));
    unused = λ k j n d. by_record (Ne-symm (live_other a m.shape r k l d));
  }

-- a write made only if a test holds
pub unseen_if : {m : Master} {a : Area} {r i : ℕ} {u : Value} (t : Bool) → Unseen m a (put m.shape r i u) → Unseen m a (put m.shape (cond t r 0) i u)
unseen_if t U = record {
  leads = λ i. by_test t (λ e. U.leads i);
  flags = λ r. by_test t (λ e. U.flags r);
  synonyms = λ r i n h. by_test t (λ e. U.synonyms r i n h);
  entry = λ r i n h. by_test t (λ e. U.entry r i n h);
  unused = λ r i n h. by_test t (λ e. U.unused r i n h);
}

-- what such a run keeps
pub record Steady (size : ℕ) (m : Master) (a b : Area) : Type 0 where
  pub whole : MasterInv size m b
  pub same : entries m b ≡ entries m a
  pub entry : (r : ℕ) → held b (cell m.shape r m.shape.front m.shape.entry) ≡ held a (cell m.shape r m.shape.front m.shape.entry)

pub unseen : {size : ℕ} {m : Master} {a b : Area} {ws : List Write} → MasterOk size m → MasterInv size m a → Ran a ws b → All (Unseen m a) ws → Steady size m a b
unfolding entries
unseen {m = m} {a = a} {b = b} {ws = ws} M I R k = record {
  whole = master_same I (ran_length R ∙ I.long) same (λ i. ran_val R (lead m.shape i) (all_map ws (λ w (u : Unseen m a w). u.leads i) k))
      (λ r d. ran_held R (cell m.shape r 0 m.shape.width) (all_map ws (λ w (u : Unseen m a w). u.unused r 0 m.shape.width d) k));
  same = same;
  entry = λ r. words r m.shape.front m.shape.entry (omega arith);
}
  where
    words : (r i n : ℕ) → m.shape.front ≤ i → held b (cell m.shape r i n) ≡ held a (cell m.shape r i n)
    words r i n h = ran_held R (cell m.shape r i n) (all_map ws (λ w (u : Unseen m a w). u.entry r i n h) k)

    numbers : (r i n : ℕ) → i + n ≤ 5 → val b (cell m.shape r i n) ≡ val a (cell m.shape r i n)
    numbers r i n h = ran_val R (cell m.shape r i n) (all_map ws (λ w (u : Unseen m a w). u.synonyms r i n h) k)

    same : entries m b ≡ entries m a
    same = λ j. record {
      live = λ r. ran_alive R m.shape r (all_map ws (λ w (u : Unseen m a w). u.flags r) k) j;
      key = λ r. words r (m.shape.front + m.key.at) m.key.size (omega arith) j;
      cnt = λ r. numbers r 0 1 (omega arith) j;
      bk = λ r. numbers r 1 2 (omega arith) j;
      nx = λ r. numbers r 3 2 (omega arith) j;
    }

-- ---- a line placed, a line unlinked: the path's own master, with the entry in record k

module _ {size : ℕ} {d : Shape} {p : Path} (S : Sane size d) (P : PathOk size d p) {a : Area} (I : MasterInv size p.to a) (k : ℕ) (l : alive a p.to.shape k ≡ true) where
  head_write : (i : ℕ) {u : Value} → i + length (say u) ≤ 5 → Unseen p.to a (put p.to.shape k (p.head + i) u)
  head_write i h = unseen_head P.to.sane l (omega (arith, P.head_at)) (omega (arith, P.head_at, P.to.front, P.slot_in))

  count_write : {v : ℕ} → Unseen p.to a (put p.to.shape k p.head (one v))
  count_write = unseen_head P.to.sane l (omega (arith, P.head_at)) (omega (arith, P.head_at, P.to.front, P.slot_in))

  pub link_in_steady : (h : Head) (r : ℕ) (t : Spot) → In d r → t.behind ≤ d.cap → t.ahead ≤ d.cap → Steady size p.to a (link_in d p a k h r t)
  link_in_steady h r t R B A = unseen P.to I (link_in_run S P start h t (alive_in a k l) R B A)
      (unseen_beside P.beside ⨾ unseen_beside P.beside ⨾ unseen_if (eqb t.behind 0) (head_write 3 (omega arith)) ⨾ unseen_if (eqb t.ahead 0) (head_write 1 (omega arith)) ⨾ count_write ⨾ unseen_beside P.beside ⨾ unseen_beside P.beside ⨾ tt)

  pub link_out_steady : (h : Head) (t : Links) → t.back ≤ d.cap → t.fore ≤ d.cap → Steady size p.to a (link_out d p a k h t)
  link_out_steady h t B A = unseen P.to I (link_out_run S P start h t (alive_in a k l) B A)
      (unseen_if (eqb t.back 0) (head_write 3 (omega arith)) ⨾ unseen_if (eqb t.fore 0) (head_write 1 (omega arith)) ⨾ count_write ⨾ unseen_beside P.beside ⨾ unseen_beside P.beside ⨾ tt)

-- ---- an entry written over with its key kept

pub record Rewritten (size : ℕ) (m : Master) (a b : Area) (r : ℕ) (entry : List ℕ) : Type 0 where
  pub whole : MasterInv size m b
  pub same : entries m b ≡ entries m a
  pub stored : held b (cell m.shape r m.shape.front m.shape.entry) ≡ entry
  pub rest : (j i n : ℕ) → j ≢ r → held b (cell m.shape j i n) ≡ held a (cell m.shape j i n)
  pub same_heads : (i : ℕ) → i + 5 ≤ m.shape.front → heads m.shape i b ≡ heads m.shape i a
  pub own : Own m.shape a b

pub rewritten : {size : ℕ} {m : Master} {a : Area} → MasterOk size m → MasterInv size m a → (r : ℕ) (entry : List ℕ) → alive a m.shape r ≡ true → length entry ≡ m.shape.entry
    → value m.key entry ≡ (entries m a).key r → Rewritten size m a (put_entry_at m.shape a r entry) r entry
unfolding entries heads
rewritten {m = m} {a = a} M I r entry l n e = record {
  whole = master_same I (ran_length R ∙ I.long) same (λ i. ran_val R (lead m.shape i) (by_kind M.sane refl tt ⨾ tt)) (λ j d. rest j 0 m.shape.width (Ne-symm (live_other a m.shape r j l d)));
  same = same;
  stored = stored;
  rest = rest;
  same_heads = λ i h. λ j. record { cnt = λ k. before k i 1 (omega arith) j; first = λ k. before k (i + 3) 2 (omega arith) j; last = λ k. before k (i + 1) 2 (omega arith) j };
  own = own_run M.sane R ((refl, tt) ⨾ tt);
}
  where
    R : Ran a (put m.shape r m.shape.front (many entry) ∷ []) (put_entry_at m.shape a r entry)
    R = by_put_entry start M.sane (alive_in a r l) n

    stored : held (put_entry_at m.shape a r entry) (cell m.shape r m.shape.front m.shape.entry) ≡ entry
    stored = shows_held R I.long (cell m.shape r m.shape.front m.shape.entry) (here (gives_put M.sane (entry_fit M.sane (alive_in a r l)) n))

    rest : (j i n : ℕ) → j ≢ r → held (put_entry_at m.shape a r entry) (cell m.shape j i n) ≡ held a (cell m.shape j i n)
    rest j i n d = ran_held R (cell m.shape j i n) (by_record d ⨾ tt)

    before : (k i n : ℕ) → i + n ≤ m.shape.front → val (put_entry_at m.shape a r entry) (cell m.shape k i n) ≡ val a (cell m.shape k i n)
    before k i n h = ran_val R (cell m.shape k i n) (by_place (inr h) ⨾ tt)

    key : (k : ℕ) → Dec (k ≡ r) → held (put_entry_at m.shape a r entry) (cell m.shape k (m.shape.front + m.key.at) m.key.size) ≡ held a (cell m.shape k (m.shape.front + m.key.at) m.key.size)
    key k (no d) = rest k _ _ d
    key k (yes q) = rw q (held_part (put_entry_at m.shape a r entry) m.shape r m.shape.front m.shape.entry (m.shape.front + m.key.at) m.key.size m.key.at (omega (arith, M.sane.filled)) refl M.key.fits ∙ ap (value m.key) stored ∙ e)

    same : entries m (put_entry_at m.shape a r entry) ≡ entries m a
    same = λ j. record {
      live = λ k. ran_alive R m.shape k (by_kind M.sane refl tt ⨾ tt) j;
      key = λ k. key k (ℕ_discrete k r) j;
      cnt = λ k. before k 0 1 (omega (arith, M.front)) j;
      bk = λ k. before k 1 2 (omega (arith, M.front)) j;
      nx = λ k. before k 3 2 (omega (arith, M.front)) j;
    }
