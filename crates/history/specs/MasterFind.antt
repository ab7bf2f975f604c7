-- Under a master's invariant, finding a key is never refused and gives what the theory's finding gives: the live record with the key, or 0 where no live entry has it.
-- And the search for an unused record gives one, or 0 where every record is live.
use Rattle.std.specs.Prelude.{◌≡◌, ◌≢◌, ◌⊎◌, Bool, length}
use Rattle.std.proofs.Math.Path.{refl, sym, ap}
use Rattle.std.proofs.Common.{◌∙◌, inl, inr, true≢false, arith, eq-eqb, ne_eqb, lt-ltb, le-ltb}
use Rattle.std.proofs.Math.Logic.{dite}
use mathlib.Core.List.{List, [], ◌∷◌}
use Rattle.std.proofs.Math.Bool.{true, false}
use Prim.Native.Nat.{ℕ, zero, suc, ◌+◌, ◌-◌, ◌≤◌, ◌<◌}
use Rattle.std.proofs.Math.Nat.{suc-ne-zero}
use Rattle.std.proofs.Math.Decide.{ℕ_discrete, dec_lt}
use Rattle.spec.specs.declared.Shape.{Shape}
use Rattle.spec.specs.declared.Master.{Master}
use Rattle.spec.specs.Outcome.{Outcome, accept}
use Rattle.spec.specs.Words.{same}
use Rattle.spec.specs.Area.{Area, live}
use Rattle.spec.specs.Master.{address, key_at, find_along, find_primary, find_key, next_up, unused_from}
use Rattle.spec.specs.Follow.{goes, taken, other}
use Rattle.history.specs.Chain.{All, Out, all_map, hd, Tail}
use Rattle.history.specs.Walk.{by_bool}
use Rattle.history.specs.Synonym.{Store, bview, Second, Found, at, absent, broken, scan, find_dead, find_second, find_here, find_on, Says, find_says, syn_count_bound}
use Rattle.history.specs.MasterKeys.{found, rec_of, found_at}
use Rattle.history.specs.Shapes.{In}
use Rattle.history.specs.Spots.{alive}
use Rattle.history.specs.Reads.{head_in, live_alive, alive_in, follow_accepts}
use Rattle.history.specs.Sets.{MasterOk}
use Rattle.history.specs.Steps.{address_in_set}
use Rattle.history.specs.Stores.{entries, entries_key, same_keys}
use Rattle.history.specs.MasterInv.{MasterInv, synonyms_read}

-- ---- a key

-- what the theory finds in the area
abbrev pub found_in : Master → Area → List ℕ → Found
found_in m a key = found (address m) same same_keys m.shape.cap (entries m a) key

-- what finding a key comes to
pub data Finds (m : Master) (a : Area) (key : List ℕ) : Type 0 where
  present : (r : ℕ) → find_key m a key ≡ accept r → found_in m a key ≡ at r → alive a m.shape r ≡ true → (entries m a).key r ≡ key → Finds m a key
  missing : find_key m a key ≡ accept 0 → found_in m a key ≡ absent → ((x : ℕ) → alive a m.shape x ≡ true → (entries m a).key x ≢ key) → Finds m a key

module _ {K : Type 0} (addr : K → ℕ) (eqk : K → K → Bool) (S : Store K) (k : K) (n x : ℕ) where
  scan_hit : eqk (S.key (suc x)) k ≡ true → scan addr eqk S k (suc n) (suc x) ≡ at (suc x)
  unfolding scan
  scan_hit e = rw (e, scan)

  scan_next : eqk (S.key (suc x)) k ≡ false → scan addr eqk S k (suc n) (suc x) ≡ scan addr eqk S k n (S.nx (suc x))
  unfolding scan
  scan_next e = rw (e, scan)

module _ {size : ℕ} {m : Master} {a : Area} (M : MasterOk size m) (I : MasterInv size m a) (key : List ℕ) where
  key_there : (r : ℕ) (t : Bool) → alive a m.shape r ≡ true → same ((entries m a).key r) key ≡ t → same (key_at m a r) key ≡ t
  key_there r t l e = ap (λ k. same k key) (entries_key m a r M I.long (alive_in a r l)) ∙ e

  count_there : (r v : ℕ) → (entries m a).cnt r ≡ v → (head_in a m.shape r 0).count ≡ v
  unfolding entries
  count_there r v e = e

  next_there : (r v : ℕ) → (entries m a).nx r ≡ v → (head_in a m.shape r 0).fore ≡ v
  unfolding entries
  next_there r v e = e

  -- the walk along a chain, with its checks, is the theory's
  along : (b : ℕ → ℕ) (n k : ℕ) (xs : List ℕ) → Out 0 xs → length xs ≤ n → length xs ≤ k → All (λ x. alive a m.shape x ≡ true) xs → Tail (entries m a).nx b 0 xs
      → find_along m a key n (hd 0 xs) ≡ accept (rec_of (scan (address m) same (entries m a) key k (hd 0 xs)))
  unfolding find_along scan
  along b zero zero [] o p q l t = refl
  along b zero (suc k) [] o p q l t = refl
  along b (suc n) zero [] o p q l t = refl
  along b (suc n) (suc k) [] o p q l t = refl
  along b zero k (x ∷ xs) o p q l t = absurd (omega arith)
  along b (suc n) zero (x ∷ xs) o p q l t = absurd (omega arith)
  along b (suc n) (suc k) (zero ∷ xs) o p q l t = absurd (o.0 refl)
  along b (suc n) (suc k) (suc x ∷ xs) o p q l t = other _ _ (ne_eqb (suc x) 0 (suc-ne-zero x)) (goes _ (follow_accepts a m.shape (suc x) (inr l.0))
      (by_bool (same ((entries m a).key (suc x)) key)
      (λ e. taken _ _ (key_there (suc x) true l.0 e) (ap (λ f. accept (rec_of f)) (sym (scan_hit (address m) same (entries m a) key k x e))))
      (λ e. other _ _ (key_there (suc x) false l.0 e) (goes _ (synonyms_read M I (suc x) l.0) (on (scan_next (address m) same (entries m a) key k x e) (along b n k xs o.1 (omega arith) (omega arith) l.1 t.2))))))
    where
      on : scan (address m) same (entries m a) key (suc k) (suc x) ≡ scan (address m) same (entries m a) key k ((entries m a).nx (suc x))
          → find_along m a key n (hd 0 xs) ≡ accept (rec_of (scan (address m) same (entries m a) key k (hd 0 xs)))
          → find_along m a key n (head_in a m.shape (suc x) 0).fore ≡ accept (rec_of (scan (address m) same (entries m a) key (suc k) (suc x)))
      on e h = rw e (ap (find_along m a key n) (next_there (suc x) (hd 0 xs) t.0) ∙ rw t.0 h)

  says : {f : Found} {r : ℕ} → found_in m a key ≡ f → rec_of f ≡ r → ◌≡◌ {A = Outcome ℕ} (accept r) (accept (rec_of (found_in m a key)))
  says e q = ap accept (sym (ap rec_of e ∙ q))

  module _ (e : (entries m a).live (address m key) ≡ true) where
    alive_home : alive a m.shape (address m key) ≡ true
    unfolding entries
    alive_home = e

    live_there : (x : ℕ) → Second (address m) (entries m a) (address m key) x → alive a m.shape x ≡ true
    unfolding entries
    live_there x y = y.live

    behind_first : (n : ℕ) → (entries m a).cnt (address m key) ≡ suc n → same ((entries m a).key (address m key)) key ≡ false
        → find_along m a key (m.shape.cap - 1) ((entries m a).nx (address m key)) ≡ accept (rec_of (found_in m a key))
    behind_first n q g =
        let Y = I.chains.primary (address m key) e (λ z. suc-ne-zero n (sym q ∙ z)) in
        let short : length (I.syn (address m key)) ≤ m.shape.cap - 1 = omega (arith, Y.count, syn_count_bound (address m) m.shape.cap (entries m a) I.syn (address m key) I.chains e (λ z. suc-ne-zero n (sym q ∙ z))) in
        rw (find_on (address m) same (entries m a) key m.shape.cap e q g, Y.links.next)
        (along (bview (entries m a) (address m key)) (m.shape.cap - 1) m.shape.cap (I.syn (address m key)) Y.clean.e_out short (omega arith)
        (all_map (I.syn (address m key)) live_there Y.each) Y.links.ahead)

    at_home : (n : ℕ) → (entries m a).cnt (address m key) ≡ n → find_primary m a key (address m key) ≡ accept (rec_of (found_in m a key))
    unfolding find_primary
    at_home zero q = goes _ (synonyms_read M I (address m key) alive_home) (taken _ _ (eq-eqb _ 0 (count_there _ 0 q)) (says (find_second (address m) same (entries m a) key m.shape.cap e q) refl))
    at_home (suc n) q = goes _ (synonyms_read M I (address m key) alive_home) (other _ _ (ne_eqb _ 0 (λ z. suc-ne-zero n (sym (count_there _ _ q) ∙ z)))
        (by_bool (same ((entries m a).key (address m key)) key)
        (λ g. taken _ _ (key_there (address m key) true alive_home g) (says (find_here (address m) same (entries m a) key m.shape.cap e q g) refl))
        (λ g. other _ _ (key_there (address m key) false alive_home g) (ap (find_along m a key (m.shape.cap - 1)) (next_there (address m key) _ refl) ∙ behind_first n q g))))

  -- THE find
  pub find_right : find_key m a key ≡ accept (rec_of (found_in m a key))
  unfolding find_key
  find_right = by_bool (alive a m.shape (address m key))
      (λ e. taken _ _ (live_alive a (address_in_set M key) ∙ e) (at_home (unfold entries in e) ((entries m a).cnt (address m key)) refl))
      (λ e. other _ _ (live_alive a (address_in_set M key) ∙ e) (says (find_dead (address m) same (entries m a) key m.shape.cap (unfold entries in e)) refl))

  wrong : (x y : List ℕ) → same x y ≡ false → x ≢ y
  wrong x y e z = true≢false (sym (same_keys.self y) ∙ ap (λ i. same i y) (sym z) ∙ e)

  pub finds : Finds m a key
  unfolding entries
  finds = go (found_in m a key) refl (find_says (address m) same (entries m a) key same_keys.right wrong m.shape.cap I.chains)
    where
      go : (f : Found) → found_in m a key ≡ f → Says (address m) same (entries m a) key (λ x. (entries m a).live x ≡ true) f → Finds m a key
      go (at r) e s = present r (find_right ∙ ap (λ f. accept (rec_of f)) e) e s.0 s.1
      go absent e s = missing (find_right ∙ ap (λ f. accept (rec_of f)) e) e s
      go broken e s = absurd s

-- a live record is what finding its key gives
pub found_live : {size : ℕ} {m : Master} {a : Area} → MasterInv size m a → (r : ℕ) (key : List ℕ) → alive a m.shape r ≡ true → (entries m a).key r ≡ key → found_in m a key ≡ at r
unfolding entries
found_live {m = m} {a = a} I r key l e = found_at (address m) same same_keys m.shape.cap (entries m a) I.syn r key I.chains l e

-- ---- an unused record

-- "the first unused record going up from h, wrapping past C to 1"
module _ (s : Shape) (a : Area) where
  next_in : (r : ℕ) → In s r → In s (next_up s.cap r)
  next_in r h = dite (dec_lt r s.cap) (λ l. rw (lt-ltb r s.cap l) record { low = omega arith; high = omega arith }) (λ l. rw (le-ltb r s.cap (omega arith)) record { low = omega arith; high = omega (arith, h.low, h.high) })

  -- what it gives is a record of the set, and unused
  pub unused_is : (n r : ℕ) → In s r → unused_from s a n r ≢ 0 → In s (unused_from s a n r) × (alive a s (unused_from s a n r) ≡ false)
  unfolding unused_from
  unused_is zero r h d = absurd (d refl)
  unused_is (suc n) r h d = by_bool (live s a r)
      (λ e. rw (e, unused_from) (unused_is n (next_up s.cap r) (next_in r h) (rw (e, unused_from) at d)))
      (λ e. rw (e, unused_from) (h, sym (live_alive a h) ∙ e))

  -- where it gives 0, the n records from r on are live
  unused_none : (n r x : ℕ) → In s r → In s x → unused_from s a n r ≡ 0 → ((r ≤ x) × (x < r + n)) ⊎ (x + s.cap < r + n) → alive a s x ≡ true
  unfolding unused_from
  unused_none zero r x h k z (inl w) = absurd (omega arith)
  unused_none zero r x h k z (inr w) = absurd (omega (arith, h.high, k.low))
  unused_none (suc n) r x h k z w = by_bool (live s a r)
      (λ e. dite (ℕ_discrete x r) (λ q. rw q (sym (live_alive a h) ∙ e)) (λ q. dite (dec_lt r s.cap) (λ l. up (unused_none n (r + 1) x) e q l w) (λ l. wrap (unused_none n 1 x) e q l w)))
      (λ e. absurd (omega (arith, h.low, rw (e, unused_from) at z)))
    where
      Rest : ℕ → Type 0
      Rest q = In s q → In s x → unused_from s a n q ≡ 0 → ((q ≤ x) × (x < q + n)) ⊎ (x + s.cap < q + n) → alive a s x ≡ true

      up : Rest (r + 1) → live s a r ≡ true → x ≢ r → r < s.cap → ((r ≤ x) × (x < r + suc n)) ⊎ (x + s.cap < r + suc n) → alive a s x ≡ true
      up f e q l (inl v) = f record { low = omega arith; high = omega arith } k (rw (e, lt-ltb r s.cap l, unused_from) at z) (inl (omega arith, omega arith))
      up f e q l (inr v) = f record { low = omega arith; high = omega arith } k (rw (e, lt-ltb r s.cap l, unused_from) at z) (inr (omega arith))

      wrap : Rest 1 → live s a r ≡ true → x ≢ r → (r < s.cap → ⊥) → ((r ≤ x) × (x < r + suc n)) ⊎ (x + s.cap < r + suc n) → alive a s x ≡ true
      wrap f e q l (inl v) = absurd (omega (arith, k.high))
      wrap f e q l (inr v) = f record { low = omega arith; high = omega (arith, k.low, k.high) } k (rw (e, le-ltb r s.cap (omega arith), unused_from) at z) (inl (k.low, omega (arith, h.high)))

  -- so from any address, the whole set is live
  pub unused_full : (h x : ℕ) → In s h → In s x → unused_from s a s.cap h ≡ 0 → alive a s x ≡ true
  unused_full h x H X z = unused_none s.cap h x H X z (dite (dec_lt x h) (λ l. inr (omega arith)) (λ l. inl (omega arith, omega (arith, H.low, X.high))))
