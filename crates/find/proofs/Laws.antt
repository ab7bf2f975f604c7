-- Laws of a master's readings: each way out of a loop, and each turn of it. Assumes nothing.
use Rattle.std.specs.Prelude.{ℕ, zero, suc, ◌+◌, ◌-◌, ◌*◌, ◌%◌, ◌≤◌, ◌<◌, ◌^◌, ◌≡◌, refl, Bool, true, false, List, length, get_or, drop, eqb}
use Rattle.std.proofs.Common.{sym, ◌∙◌, ap, arith, add-one, sub-one, drop_of_length-le, lt-ltb, eq-eqb, ne_eqb}
use Rattle.std.proofs.Math.Seq.{drop-cons}
use Rattle.spec.specs.declared.Refusal.{Refusal}
use Rattle.spec.specs.declared.Refusal.TheVariants.{Broken}
use Rattle.spec.specs.declared.Shape.{Shape}
use Rattle.spec.specs.declared.Head.{Head}
use Rattle.spec.specs.declared.Master.{Master}
use Rattle.spec.specs.Outcome.{accept, refuse, ◌>>=◌}
use Rattle.spec.specs.Words.{same}
use Rattle.spec.specs.Area.{live, follow, read_head, synonyms}
use Rattle.spec.specs.Master.{key_number, key_at, find_along, next_up, unused_from, no_lines}
use Rattle.spec.specs.Follow.{goes, stops, taken, other}
use Rattle.find.specs.Answers.{Full}

-- ---- the number of a key's words
module _ (by v i : ℕ) (key : List ℕ) where
  pub number_turn : i < length key → key_number by v (drop i key) ≡ key_number by ((by * v + get_or key i 0) % 2 ^ 31) (drop (i + 1) key)
  unfolding key_number
  number_turn h = rw (add-one, drop-cons key i 0) refl

  pub number_end : length key ≤ i → key_number by v (drop i key) ≡ v
  unfolding key_number
  number_end h = rw (drop_of_length-le key h) refl

-- ---- along the synonym chain: what n records from r on give
module _ (m : Master) (a key : List ℕ) where
  along_end : (n r : ℕ) → r ≡ 0 → find_along m a key n r ≡ accept 0
  unfolding find_along
  along_end zero r e = taken _ _ (eq-eqb r 0 e) refl
  along_end (suc n) r e = taken _ _ (eq-eqb r 0 e) refl

-- the rest of the loop: c of n records were passed, and the next is at
module _ (m : Master) (a key : List ℕ) (n c at : ℕ) where
  pub walk_end : at ≡ 0 → find_along m a key (n - c) at ≡ accept 0
  walk_end e = along_end m a key (n - c) at e

  module _ (e : at ≡ 0 → ⊥) where
    pub walk_long : n ≤ c → find_along m a key (n - c) at ≡ refuse Broken
    unfolding find_along
    walk_long h = let z : n - c ≡ 0 = omega arith in rw z (other _ _ (ne_eqb at 0 e) refl)

    module _ (h : c < n) where
      left : n - c ≡ suc (n - (c + 1))
      left = omega arith

      pub walk_lost : (why : Refusal) → refuse why ≡ follow m.shape a at → find_along m a key (n - c) at ≡ refuse why
      unfolding find_along
      walk_lost why f = rw left (other _ _ (ne_eqb at 0 e) (stops _ (sym f)))

      module _ (f : accept tt ≡ follow m.shape a at) (d : Bool) (v : d ≡ same (key_at m a at) key) where
        pub walk_here : d ≡ true → find_along m a key (n - c) at ≡ accept at
        unfolding find_along
        walk_here w = rw left (other _ _ (ne_eqb at 0 e) (goes _ (sym f) (taken _ _ (sym v ∙ w) refl)))

        module _ (w : d ≡ false) where
          pub walk_torn : (why : Refusal) → refuse why ≡ synonyms m.shape a at → find_along m a key (n - c) at ≡ refuse why
          unfolding find_along
          walk_torn why t = rw left (other _ _ (ne_eqb at 0 e) (goes _ (sym f) (other _ _ (sym v ∙ w) (stops _ (sym t)))))

          pub walk_next : (y : Head) → accept y ≡ synonyms m.shape a at → find_along m a key (n - c) at ≡ find_along m a key (n - (c + 1)) y.fore
          unfolding find_along
          walk_next y t = rw left (other _ _ (ne_eqb at 0 e) (goes _ (sym f) (other _ _ (sym v ∙ w) (goes _ (sym t) refl))))

-- ---- the first unused record
module _ (s : Shape) (a : List ℕ) where
  pub unused_here : (n r : ℕ) → (n ≡ 0 → ⊥) → live s a r ≡ false → unused_from s a n r ≡ r
  unfolding unused_from
  unused_here zero r z e = absurd (z refl)
  unused_here (suc n) r z e = other _ _ e refl

  pub unused_next : (n r : ℕ) → (n ≡ 0 → ⊥) → live s a r ≡ true → unused_from s a n r ≡ unused_from s a (n - 1) (next_up s.cap r)
  unfolding unused_from
  unused_next zero r z e = absurd (z refl)
  unused_next (suc n) r z e = taken _ _ e (rw sub-one refl)

  -- k + 1 live records, none of them past the capacity
  unused_run :
      (k n r : ℕ) → k < n → r + k ≤ s.cap → ((j : ℕ) → j ≤ k → live s a (r + j) ≡ true) →
      unused_from s a n r ≡ unused_from s a (n - suc k) (next_up s.cap (r + k))
  unused_run zero n r h c l =
      let e : r ≡ r + 0 = omega arith in
      ap (unused_from s a n) e ∙ unused_next n (r + 0) (λ z. omega arith) (l 0 (omega arith))
  unused_run (suc k) n r h c l =
      let e : next_up s.cap (r + k) ≡ r + suc k = rw (lt-ltb (r + k) s.cap (omega arith)) (omega arith) in
      let d : n - suc k - 1 ≡ n - suc (suc k) = omega arith in
      unused_run k n r (omega arith) (omega arith) (λ j q. l j (omega arith)) ∙ ap (unused_from s a (n - suc k)) e
      ∙ unused_next (n - suc k) (r + suc k) (λ z. omega arith) (l (suc k) (omega arith))
      ∙ ap (λ m. unused_from s a m (next_up s.cap (r + suc k))) d

  pub unused_none : (n r : ℕ) → n ≡ 0 → unused_from s a n r ≡ 0
  unfolding unused_from
  unused_none n r z = rw z refl

  pub unused_word : (n r : ℕ) → Full s a n r → unused_from s a n r ≡ unused_from s a (n - 16) (next_up s.cap (r + 15))
  unused_word n r w =
      let h : 16 ≤ n = w.many in
      unused_run 15 n r (omega arith) w.within (λ j l. w.alike.all j (omega arith))

-- ---- the heads, one by one
module _ (s : Shape) (a : List ℕ) (r : ℕ) where
  heads_step :
      (caps : List ℕ) (j : ℕ) → j < length caps →
      no_lines s a r (drop j caps) j
      ≡ (read_head (get_or caps j 0) s a r (5 + 5 * j) >>= λ h. elim (eqb h.count 0) [ true ↦ no_lines s a r (drop (suc j) caps) (j + 1) | false ↦ accept false ])
  unfolding no_lines
  heads_step caps j h = ap (λ (l : List ℕ). no_lines s a r l j) (drop-cons caps j 0 h)

  module _ (caps : List ℕ) (j : ℕ) where
    pub heads_end : length caps ≤ j → no_lines s a r (drop j caps) j ≡ accept true
    unfolding no_lines
    heads_end h = rw (drop_of_length-le caps h) refl

    module _ (h : j < length caps) where
      pub heads_torn : (why : Refusal) → refuse why ≡ read_head (get_or caps j 0) s a r (5 + 5 * j) → no_lines s a r (drop j caps) j ≡ refuse why
      heads_torn why t = heads_step caps j h ∙ stops _ (sym t)

      module _ (y : Head) (t : accept y ≡ read_head (get_or caps j 0) s a r (5 + 5 * j)) where
        pub heads_some : (y.count ≡ 0 → ⊥) → no_lines s a r (drop j caps) j ≡ accept false
        heads_some c = heads_step caps j h ∙ goes _ (sym t) (other _ _ (ne_eqb y.count 0 c) refl)

        pub heads_next : y.count ≡ 0 → no_lines s a r (drop j caps) j ≡ no_lines s a r (drop (j + 1) caps) (j + 1)
        heads_next c = heads_step caps j h ∙ goes _ (sym t) (taken _ _ (eq-eqb y.count 0 c) (rw add-one refl))
