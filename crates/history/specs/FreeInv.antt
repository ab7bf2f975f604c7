-- A detail's records in the area: those that are live, those that were freed, and those that were never taken. Taking a record is refused only if all are live, and
-- storing the entry and freeing a record keep the list of the freed ones.
use Rattle.std.specs.Prelude.{◌≡◌, refl, ◌≢◌, ◌⊎◌, Bool, true, false, not, ℕ, suc, ◌+◌, ◌-◌, ◌≤◌, ◌<◌, length, replicate}
use Rattle.std.proofs.Common.{sym, ◌∙◌, subst, inl, inr, true≢false, add-one, arith, eq-eqb, ne_eqb, lt-ltb, le-ltb}
use Rattle.std.proofs.Math.Path.{ap}
use mathlib.Core.List.{List, [], ◌∷◌}
use Rattle.std.proofs.Math.Decide.{ℕ_discrete, dec_lt}
use Rattle.spec.specs.declared.Refusal.TheVariants.{SetFull, Broken}
use Rattle.spec.specs.declared.Shape.{Shape}
use Rattle.spec.specs.declared.Taken.{Taken}
use Rattle.spec.specs.Outcome.{accept, refuse}
use Rattle.spec.specs.Follow.{goes, stops, taken, other, passes, fails}
use Rattle.spec.specs.Area.{Area, live, read, mark, freed}
use Rattle.spec.specs.Detail as Detail
use Rattle.spec.specs.Detail.{take_record, take_above, settle, free_record}
use Rattle.history.specs.Chain.{All, ◌⨾◌, all_map, hd}
use Rattle.history.specs.Walk.{by_bool}
use Rattle.history.specs.FreeList.{Follow, Freed, FInv, release, take_freed, take_new, free_new}
use Rattle.history.specs.Layout.{num}
use Rattle.history.specs.Runs.{num_one}
use Rattle.history.specs.Shapes.{Sane, Beside, In}
use Rattle.history.specs.Spots.{held, val, alive, new_held, new_val, new_dead, lead, cell}
use Rattle.history.specs.Apart.{Kept, by_kind, by_record, by_flag, by_place, by_lead}
use Rattle.history.specs.Shown.{gives_put, gives_note, gives_turn, gives_zeros, here, ◌▸◌}
use Rattle.history.specs.Writers.{Ran, start, ran_length, ran_held, ran_val, ran_alive, ran_kept, shows_held, shows_val, shows_alive}
use Rattle.history.specs.Reads.{live_alive, alive_in, mark_val, freed_val, next_freed_val, read_accepts}
use Rattle.history.specs.Steps.{first_fit, entry_fit, whole_fit, settle_writes, free_writes, settle_run, free_record_run}
use Rattle.history.specs.Stores.{high, first_freed, freed_links, kept_held, kept_lead, kept_alive}
use Rattle.history.specs.PathFrame.{Still}

-- ---- the list of freed records, and the unused records

pub record FreeInv (d : Shape) (a : Area) (fs : List ℕ) : Type 0 where
  pub list : FInv d.cap (high d a) (first_freed d a) (freed_links d a) (alive a d) fs
  -- an unused record is zeros but for its first word, and that too if it was never taken
  pub zeros : (r : ℕ) → In d r → alive a d r ≡ false → held a (cell d r 1 (d.width - 1)) ≡ replicate (d.width - 1) 0
  pub never : (r : ℕ) → high d a < r → freed_links d a r ≡ 0

-- the list asks the links of the freed records only
relink : {c hw first : ℕ} {link link' : ℕ → ℕ} {live : ℕ → Bool} (fs : List ℕ) → FInv c hw first link live fs → All (λ x. link' x ≡ link x) fs → FInv c hw first link' live fs
relink {link = link} {link' = link'} fs I e = record { mark = I.mark; head = I.head; follow = go fs e I.follow; nodup = I.nodup; each = I.each; every = I.every; above = I.above }
  where
    go : (xs : List ℕ) → All (λ x. link' x ≡ link x) xs → Follow link xs → Follow link' xs
    go [] e f = tt
    go (x ∷ xs) e f = (e.0 ∙ f.0, go xs e.1 f.1)

-- the same list, its numbers and bits said otherwise
same_list : {c hw hw' first first' : ℕ} {link : ℕ → ℕ} {live live' : ℕ → Bool} {fs : List ℕ} → hw ≡ hw' → first ≡ first' → ((j : ℕ) → live j ≡ live' j) → FInv c hw first link live fs → FInv c hw' first' link live' fs
same_list {c} {link = link} {fs = fs} e f g I = subst (λ h. h) (λ i. FInv c (e i) (f i) link (λ j. g j i) fs) I

-- a new set
pub free_inv_new : {size : ℕ} {d : Shape} (S : Sane size d) (n : ℕ) → FreeInv d (replicate n 0) []
free_inv_new {d = d} S n = record {
  list = same_list (sym (new_val n (lead d 0))) (sym (new_val n (lead d 1))) (λ j. refl) (free_new d.cap _ _ (new_dead n d));
  zeros = λ r h e. new_held n record { row = h; wide = omega (arith, S.filled, S.some) };
  never = λ r h. new_val n (cell d r 0 1);
}

-- leading words, map and unused records are all that it is about
free_same : {d : Shape} {a b : Area} {fs : List ℕ} → ((i : ℕ) → val b (lead d i) ≡ val a (lead d i)) → ((j : ℕ) → alive b d j ≡ alive a d j)
    → ((j i n : ℕ) → alive a d j ≡ false → held b (cell d j i n) ≡ held a (cell d j i n)) → FreeInv d a fs → FreeInv d b fs
free_same {d} {a} {b} {fs} leads map unused I = record {
  list = relink fs (same_list (sym (leads 0)) (sym (leads 1)) (λ j. sym (map j)) I.list) (all_map fs (λ j (g : Freed (alive a d) (high d a) j). ap num (unused j 0 1 g.dead)) I.list.each);
  zeros = λ j h z. let e = sym (map j) ∙ z in unused j 1 _ e ∙ I.zeros j h e;
  never = λ j h. let u : high d a < j = subst (λ n. n < j) (leads 0) h in ap num (unused j 0 1 (I.list.above j u)) ∙ I.never j u;
}

-- while a live line is worked on, and while other sets are
pub free_still : {d : Shape} {r : ℕ} {a b : Area} {fs : List ℕ} → alive a d r ≡ true → Still d r a b → FreeInv d a fs → FreeInv d b fs
free_still {d} {r} {a} e F I = free_same F.leads F.map (λ j i n z. F.unused j i n z (λ o. true≢false (sym e ∙ ap (alive a d) (sym o) ∙ z))) I

pub free_kept : {d : Shape} {a b : Area} {fs : List ℕ} → Kept d a b → FreeInv d a fs → FreeInv d b fs
free_kept K I = free_same (kept_lead K) (kept_alive K) (λ j i n z. kept_held K j i n) I

-- ---- taking a record

pub record FromFreed (d : Shape) (a : Area) (fs : List ℕ) (t : Taken) (rest : List ℕ) : Type 0 where
  pub list : fs ≡ t.at ∷ rest
  pub mark : t.mark ≡ high d a
  pub next : t.freed ≡ freed_links d a t.at

pub record FromNew (d : Shape) (a : Area) (fs : List ℕ) (t : Taken) (rest : List ℕ) : Type 0 where
  pub list : fs ≡ []
  pub none : rest ≡ []
  pub room : high d a < d.cap
  pub record_is : t.at ≡ suc (high d a)
  pub mark : t.mark ≡ suc (high d a)
  pub next : t.freed ≡ 0

-- the record taken is one of the set's, and not live; `rest` are the freed ones that remain
pub record Took (d : Shape) (a : Area) (fs : List ℕ) (t : Taken) : Type 0 where
  pub row : In d t.at
  pub dead : alive a d t.at ≡ false
  pub rest : List ℕ
  pub from : FromFreed d a fs t rest ⊎ FromNew d a fs t rest

pub data Take (d : Shape) (a : Area) (fs : List ℕ) : Type 0 where
  full : take_record d a ≡ refuse SetFull → ((r : ℕ) → In d r → alive a d r ≡ true) → Take d a fs
  took : (t : Taken) → take_record d a ≡ accept t → Took d a fs t → Take d a fs

freed_in : (c hw first : ℕ) (link : ℕ → ℕ) (live : ℕ → Bool) (fs : List ℕ) → FInv c hw first link live fs → hd 0 fs ≤ c
freed_in c hw first link live [] I = omega arith
freed_in c hw first link live (x ∷ fs) I = omega (arith, I.each.0.high, I.mark)

-- reading the first freed record: never refused
pub freed_read : {d : Shape} {a : Area} {fs : List ℕ} → FreeInv d a fs → read d.cap (freed d a) ≡ accept (first_freed d a)
freed_read {d} {a} {fs} I = ap (read d.cap) (freed_val a d) ∙ read_accepts _ _ (rw I.list.head (freed_in _ _ _ _ _ fs I.list))

module _ {size : ℕ} {d : Shape} (S : Sane size d) (a : Area) where
  unused : (r : ℕ) → In d r → alive a d r ≡ false → not (live d a r) ≡ true
  unused r h e = ap not (live_alive a h ∙ e)

  above_taken : (h : ℕ) → h < d.cap → In d (h + 1) → alive a d (h + 1) ≡ false → take_above d a h ≡ accept (record { at = h + 1; mark = h + 1; freed = 0 })
  unfolding take_above
  above_taken h g row dead = goes _ (passes SetFull (lt-ltb _ _ g)) (goes _ (passes Broken (unused _ row dead)) refl)

  above_full : (h : ℕ) → d.cap ≤ h → take_above d a h ≡ refuse SetFull
  unfolding take_above
  above_full h g = stops _ (fails SetFull (le-ltb _ _ g))

  freed_taken : (h r : ℕ) → In d r → alive a d r ≡ false → freed_links d a r ≤ d.cap → Detail.take_freed d a h r ≡ accept (record { at = r; mark = h; freed = freed_links d a r })
  unfolding Detail.take_freed
  freed_taken h r row dead next = goes _ (passes Broken (unused _ row dead)) (goes _ (ap (read d.cap) (next_freed_val a (first_fit S row)) ∙ read_accepts _ _ next) refl)

  pub take_says : (fs : List ℕ) → FreeInv d a fs → Take d a fs
  unfolding take_record
  take_says fs I = go fs I
    where
      marked : {fs : List ℕ} → FreeInv d a fs → read d.cap (mark d a) ≡ accept (high d a)
      marked I = ap (read d.cap) (mark_val a d) ∙ read_accepts _ _ I.list.mark

      above_mark : FreeInv d a [] → Dec (high d a < d.cap) → Take d a []
      above_mark I (yes h) =
          let row : In d (high d a + 1) = record { low = omega arith; high = omega arith } in
          let dead : alive a d (high d a + 1) ≡ false = I.list.above _ (omega arith) in
          took (record { at = high d a + 1; mark = high d a + 1; freed = 0 })
          (goes _ (marked I) (goes _ (freed_read I) (taken _ _ (eq-eqb _ 0 I.list.head) (above_taken _ h row dead))))
          record { row = row; dead = dead; rest = []; from = inr record { list = refl; none = refl; room = h; record_is = add-one _; mark = add-one _; next = refl } }
      above_mark I (no n) = full
          (goes _ (marked I) (goes _ (freed_read I) (taken _ _ (eq-eqb _ 0 I.list.head) (above_full _ (omega arith)))))
          (λ r h. by_bool (alive a d r) (λ e. e) (λ e. absurd (I.list.every r record { low = h.low; high = omega (arith, h.high); dead = e })))

      go : (fs : List ℕ) → FreeInv d a fs → Take d a fs
      go [] I = above_mark I (dec_lt (high d a) d.cap)
      go (x ∷ fs) I =
          let e : first_freed d a ≡ x = I.list.head in
          let row : In d (first_freed d a) = rw e record { low = I.list.each.0.low; high = omega (arith, I.list.each.0.high, I.list.mark) } in
          let dead : alive a d (first_freed d a) ≡ false = rw e I.list.each.0.dead in
          let next : freed_links d a (first_freed d a) ≤ d.cap = rw (e, I.list.follow.0) (tail_in fs I.list.each.1 I.list.mark) in
          took (record { at = first_freed d a; mark = high d a; freed = freed_links d a (first_freed d a) })
          (goes _ (marked I) (goes _ (freed_read I) (other _ _ (ne_eqb (first_freed d a) 0 (λ z. omega (arith, row.low))) (freed_taken _ _ row dead next))))
          record { row = row; dead = dead; rest = fs; from = inl record { list = ap (λ z. z ∷ fs) (sym e); mark = refl; next = refl } }
        where
          tail_in : (ys : List ℕ) → All (Freed (alive a d) (high d a)) ys → high d a ≤ d.cap → hd 0 ys ≤ d.cap
          tail_in [] g h = omega arith
          tail_in (y ∷ ys) g h = omega (arith, g.0.high)

-- ---- storing the entry

-- c is b with the entry stored in the record taken, which is live now
pub record Settled (d : Shape) (t : Taken) (entry : List ℕ) (b c : Area) : Type 0 where
  pub size : length c ≡ length b
  pub sets : (s : Shape) → Beside d s → Kept s b c
  pub mark : high d c ≡ t.mark
  pub next : first_freed d c ≡ t.freed
  pub live : alive c d t.at ≡ true
  pub map : (j : ℕ) → j ≢ t.at → alive c d j ≡ alive b d j
  pub entry_is : held c (cell d t.at d.front d.entry) ≡ entry
  pub front : (j i n : ℕ) → i + n ≤ d.front → held c (cell d j i n) ≡ held b (cell d j i n)
  pub records : (j i n : ℕ) → j ≢ t.at → held c (cell d j i n) ≡ held b (cell d j i n)

pub settled : {size : ℕ} {d : Shape} (S : Sane size d) (b : Area) (t : Taken) (entry : List ℕ) → length b ≡ size → In d t.at → length entry ≡ d.entry → Settled d t entry b (settle d b t entry)
settled {d = d} S b t entry l h e =
    let R : Ran b (settle_writes d t entry []) (settle d b t entry) = settle_run S start t h e in
    record {
      size = ran_length R;
      sets = λ s B. ran_kept R s (B ⨾ B ⨾ B ⨾ B ⨾ tt);
      mark = shows_val R l (lead d 0) (by_kind S refl tt ▸ by_kind S refl tt ▸ by_lead (omega arith) ▸ here (gives_note S (omega arith))) (num_one _);
      next = shows_val R l (lead d 1) (by_kind S refl tt ▸ by_kind S refl tt ▸ here (gives_note S (omega arith))) (num_one _);
      live = shows_alive R l d t.at true (here (gives_turn S h));
      map = λ j n. ran_alive R d j (by_flag n ⨾ by_kind S refl tt ⨾ by_kind S refl tt ⨾ by_kind S refl tt ⨾ tt);
      entry_is = shows_held R l _ (by_kind S refl tt ▸ here (gives_put S (entry_fit S h) e));
      front = λ j i n w. ran_held R (cell d j i n) (by_kind S refl tt ⨾ by_place (inr w) ⨾ by_kind S refl tt ⨾ by_kind S refl tt ⨾ tt);
      records = λ j i n z. ran_held R (cell d j i n) (by_kind S refl tt ⨾ by_record z ⨾ by_kind S refl tt ⨾ by_kind S refl tt ⨾ tt);
    }

-- between the taking (a) and the storing (b to c) the lines were placed
pub free_settled : {d : Shape} {a b c : Area} {fs : List ℕ} {t : Taken} {entry : List ℕ} → FreeInv d a fs → (K : Took d a fs t) → Still d t.at a b → Settled d t entry b c → FreeInv d c K.rest
free_settled {d} {a} {b} {c} {fs} {t} I K F N = record {
  list = list K.from;
  zeros = λ j h e. let z = other j e in unused j 1 _ (was j z e) z ∙ I.zeros j h (was j z e);
  never = λ j h. let g = beyond j h K.from in let q = I.list.above j g.0 in ap num (unused j 0 1 q g.1) ∙ I.never j g.0;
}
  where
    other : (j : ℕ) → alive c d j ≡ false → j ≢ t.at
    other j e z = true≢false (sym N.live ∙ ap (alive c d) (sym z) ∙ e)

    was : (j : ℕ) → j ≢ t.at → alive c d j ≡ false → alive a d j ≡ false
    was j z e = sym (N.map j z ∙ F.map j) ∙ e

    unused : (j i n : ℕ) → alive a d j ≡ false → j ≢ t.at → held c (cell d j i n) ≡ held a (cell d j i n)
    unused j i n e z = N.records j i n z ∙ F.unused j i n e z

    list : FromFreed d a fs t K.rest ⊎ FromNew d a fs t K.rest → FInv d.cap (high d c) (first_freed d c) (freed_links d c) (alive c d) K.rest
    list (inl f) =
        let J : FInv d.cap (high d a) (freed_links d a t.at) (freed_links d a) (alive c d) K.rest = take_freed t.at K.rest (subst (FInv _ _ _ _ _) f.list I.list) N.live (λ j z. (N.map j z ∙ F.map j, refl)) in
        relink K.rest (same_list (sym (N.mark ∙ f.mark)) (sym (N.next ∙ f.next)) (λ j. refl) J)
        (all_map K.rest (λ j (g : Freed (alive c d) (high d a) j). let z = other j g.dead in ap num (unused j 0 1 (was j z g.dead) z)) J.each)
    list (inr f) =
        let r : t.at ≡ suc (high d a) = f.record_is in
        subst (FInv _ _ _ _ _) (sym f.none) (same_list (sym (N.mark ∙ f.mark)) (I.list.head ∙ ap (hd 0) f.list ∙ sym (N.next ∙ f.next)) (λ j. refl)
        (take_new (subst (FInv _ _ _ _ _) f.list I.list) f.room (subst (λ j. alive c d j ≡ true) r N.live) (λ j z. let n : j ≢ t.at = (λ o. z (o ∙ r)) in N.map j n ∙ F.map j)))

    beyond : (j : ℕ) → high d c < j → FromFreed d a fs t K.rest ⊎ FromNew d a fs t K.rest → (high d a < j) × (j ≢ t.at)
    beyond j h (inl f) =
        let q : t.at ≤ high d a = (subst (All (Freed (alive a d) (high d a))) f.list I.list.each).0.high in
        (omega (arith, N.mark, f.mark), λ z. omega (arith, N.mark, f.mark))
    beyond j h (inr f) = (omega (arith, N.mark, f.mark), λ z. omega (arith, N.mark, f.mark, f.record_is))

-- ---- freeing a record

-- c is b with record r unused: zeros, but for the number of the next freed one
pub record RecordFreed (d : Shape) (r next : ℕ) (b c : Area) : Type 0 where
  pub size : length c ≡ length b
  pub sets : (s : Shape) → Beside d s → Kept s b c
  pub mark : high d c ≡ high d b
  pub first : first_freed d c ≡ r
  pub link : freed_links d c r ≡ next
  pub zeros : held c (cell d r 1 (d.width - 1)) ≡ replicate (d.width - 1) 0
  pub dead : alive c d r ≡ false
  pub map : (j : ℕ) → j ≢ r → alive c d j ≡ alive b d j
  pub records : (j i n : ℕ) → j ≢ r → held c (cell d j i n) ≡ held b (cell d j i n)

pub record_freed : {size : ℕ} {d : Shape} (S : Sane size d) (b : Area) (r next : ℕ) → length b ≡ size → In d r → RecordFreed d r next b (free_record d b r next)
record_freed {d = d} S b r next l h =
    let R : Ran b (free_writes d r next []) (free_record d b r next) = free_record_run S start h in
    record {
      size = ran_length R;
      sets = λ s B. ran_kept R s (B ⨾ B ⨾ B ⨾ B ⨾ tt);
      mark = ran_val R (lead d 0) (by_kind S refl tt ⨾ by_lead (omega arith) ⨾ by_kind S refl tt ⨾ by_kind S refl tt ⨾ tt);
      first = shows_val R l (lead d 1) (by_kind S refl tt ▸ here (gives_note S (omega arith))) (num_one _);
      link = shows_val R l (cell d r 0 1) (by_kind S refl tt ▸ by_kind S refl tt ▸ here (gives_put S (first_fit S h) refl)) (num_one _);
      zeros = shows_held R l (cell d r 1 (d.width - 1)) (by_kind S refl tt ▸ by_kind S refl tt ▸ by_place (inl (omega arith)) ▸ here (gives_zeros S d.width 1 (whole_fit h) (omega arith) (omega (arith, S.filled, S.some))));
      dead = shows_alive R l d r false (here (gives_turn S h));
      map = λ j n. ran_alive R d j (by_flag n ⨾ by_kind S refl tt ⨾ by_kind S refl tt ⨾ by_kind S refl tt ⨾ tt);
      records = λ j i n z. ran_held R (cell d j i n) (by_kind S refl tt ⨾ by_kind S refl tt ⨾ by_record z ⨾ by_record z ⨾ tt);
    }

pub free_released : {d : Shape} {r : ℕ} {b c : Area} {fs : List ℕ} → FreeInv d b fs → alive b d r ≡ true → RecordFreed d r (first_freed d b) b c → FreeInv d c (r ∷ fs)
free_released {d} {r} {b} {c} {fs} I e N = record {
  list = same_list (sym N.mark) (sym N.first) (λ j. refl) (release r fs I.list e (alive_in b r e).low N.dead N.link (λ j z. (N.map j z, ap num (N.records j 0 1 z))));
  zeros = λ j h g. go j h g (ℕ_discrete j r);
  never = λ j h. let u : high d b < j = subst (λ n. n < j) N.mark h in ap num (N.records j 0 1 (λ z. true≢false (sym e ∙ ap (alive b d) (sym z) ∙ I.list.above j u))) ∙ I.never j u;
}
  where
    go : (j : ℕ) → In d j → alive c d j ≡ false → Dec (j ≡ r) → held c (cell d j 1 (d.width - 1)) ≡ replicate (d.width - 1) 0
    go j h g (yes z) = rw z N.zeros
    go j h g (no n) = N.records j 1 _ n ∙ I.zeros j h (sym (N.map j n) ∙ g)
