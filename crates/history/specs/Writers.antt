-- The definitions' writers as writes, so that a step is one term that follows its text; and what such a run leaves and shows.
use Rattle.std.specs.Prelude.{◌≡◌, List, [], ◌∷◌, Bool, cond, ℕ, ◌+◌, ◌≤◌, length, replicate, eqb}
use Rattle.std.proofs.Math.Path.{refl, sym, ap}
use Rattle.std.proofs.Common.{◌∙◌, subst, arith, add-zero, eqb-true}
use Rattle.std.proofs.Math.Bool.{true, false}
use Rattle.std.proofs.Math.ListN.{length-replicate}
use Rattle.spec.specs.declared.Shape.{Shape}
use Rattle.spec.specs.Area.{Area, go_live, go_unused, place, poke, poke_link, poke_part, mend, blank, put_entry_at, set_mark, set_freed, set_next_freed, set_head_count, set_last, set_first, mend_back, mend_fore, set_synonym_count, mend_synonym_back, mend_synonym_fore, set_synonyms}
use Rattle.history.specs.Chain.{All}
use Rattle.history.specs.Walk.{by_bool}
use Rattle.history.specs.Layout.{num, at}
use Rattle.std.proofs.lemmas.Bool.{eqb-false}
use Rattle.spec.specs.declared.Head.{Head}
use Rattle.spec.specs.Words.{long_words}
use Rattle.history.specs.MapBits.{digit}
use Rattle.history.specs.Runs.{num_one}
use Rattle.history.specs.Shapes.{Sane, Beside, In, has, in_has, Fit, Near}
use Rattle.history.specs.Spots.{Spot, set_of, real, held, val, alive, fit_real, flag, cell}
use Rattle.history.specs.Writes.{Value, Write, target, force, apply, apply_real, apply_none, run, run_length, one, two, many, put, note, turn}
use Rattle.history.specs.Apart.{Misses, run_frame, Kept, run_kept}
use Rattle.history.specs.Shown.{Left, run_left}

-- b is what a run of writes makes of a. Each law below adds the write that a writer of the definitions makes, so a step is one term that follows its text.
pub record Ran (a : Area) (ws : List Write) (b : Area) : Type 0 where
  pub made : b ≡ run a ws

pub start : {a : Area} → Ran a [] a
unfolding run
start = record { made = refl }

module _ {a b : Area} {ws : List Write} (R : Ran a ws b) where
  -- from what a writer makes of b
  adds : {w : Write} (c : Area) → real (target w) ≡ true → c ≡ force b w → Ran a (w ∷ ws) c
  unfolding run
  adds {w} c e p = record { made = p ∙ sym (apply_real b w e) ∙ ap (λ d. apply d w) R.made }

  -- nothing, said of a record that nobody has
  skips : {w : Write} → real (target w) ≡ false → Ran a (w ∷ ws) b
  unfolding run
  skips {w} e = record { made = R.made ∙ sym (apply_none (run a ws) w e) }

  pub by_poke : {s : Shape} {r i v : ℕ} → Fit s r i 1 → Ran a (put s r i (one v) ∷ ws) (poke s b r i v)
  unfolding poke place force at
  by_poke f = adds _ (fit_real f) refl

  pub by_poke_link : {s : Shape} {r i v : ℕ} → Fit s r i 2 → Ran a (put s r i (two v) ∷ ws) (poke_link s b r i v)
  unfolding poke_link place force at long_words
  by_poke_link f = adds _ (fit_real f) refl

  pub by_poke_part : {s : Shape} {r i : ℕ} {vs : List ℕ} → Fit s r i (length vs) → Ran a (put s r i (many vs) ∷ ws) (poke_part s b r i vs)
  unfolding poke_part place force at
  by_poke_part f = adds _ (fit_real f) refl

  pub by_blank : {s : Shape} {r i n : ℕ} → Fit s r i n → Ran a (put s r i (many (replicate n 0)) ∷ ws) (blank s b r i n)
  unfolding blank
  by_blank {n = n} f = by_poke_part (rw length-replicate f)

  pub by_put_entry : {size : ℕ} {s : Shape} {r : ℕ} {vs : List ℕ} → Sane size s → In s r → length vs ≡ s.entry → Ran a (put s r s.front (many vs) ∷ ws) (put_entry_at s b r vs)
  unfolding put_entry_at
  by_put_entry S h l = by_poke_part record { row = h; wide = omega (arith, S.filled) }

  pub by_set_mark : {s : Shape} {v : ℕ} → Ran a (note s 0 v ∷ ws) (set_mark s b v)
  unfolding set_mark force real
  by_set_mark = adds _ refl refl

  pub by_set_freed : {s : Shape} {v : ℕ} → Ran a (note s 1 v ∷ ws) (set_freed s b v)
  unfolding set_freed force real
  by_set_freed = adds _ refl refl

  pub by_go_live : {s : Shape} {r : ℕ} → In s r → Ran a (turn s r true ∷ ws) (go_live s b r)
  unfolding go_live force real
  by_go_live {s} {r} h = adds _ (in_has s r h) refl

  pub by_go_unused : {s : Shape} {r : ℕ} → In s r → Ran a (turn s r false ∷ ws) (go_unused s b r)
  unfolding go_unused force real
  by_go_unused {s} {r} h = adds _ (in_has s r h) refl

  -- a neighbour's link: of record 0 it is nothing
  pub by_mend : {s : Shape} {r i v : ℕ} → Near s r i 2 → Ran a (put s r i (two v) ∷ ws) (mend s b r i v)
  unfolding mend real has
  by_mend {s} {r} {i} {v} n = by_bool (eqb r 0)
      (λ e. rw (e, mend) (skips (none (eqb-true r 0 e))))
      (λ e. rw (e, mend) (by_poke_link record { row = record { low = low (eqb-false r 0 e); high = n.high }; wide = n.wide }))
    where
      none : r ≡ 0 → real (cell s r i 2) ≡ false
      none z = rw z

      low : (r ≡ 0 → ⊥) → 1 ≤ r
      low n = omega arith

  -- a write that is made only if a test holds: else it is to nobody
  pub by_if : {s : Shape} {r i : ℕ} {u : Value} {c : Area} (t : Bool) → Ran a (put s r i u ∷ ws) c → Ran a (put s (cond t r 0) i u ∷ ws) (elim t as (λ _. Area) [ true ↦ c | false ↦ b ])
  unfolding real has
  by_if true C = C
  by_if false C = skips refl

  -- the writers of links, heads and synonym words
  pub by_mend_back : {s : Shape} {r i v : ℕ} → Near s r i 4 → Ran a (put s r i (two v) ∷ ws) (mend_back s b r i v)
  unfolding mend_back
  by_mend_back {i = i} n = rw (add-zero i) (by_mend record { high = n.high; wide = omega (arith, n.wide) })

  pub by_mend_fore : {s : Shape} {r i v : ℕ} → Near s r i 4 → Ran a (put s r (i + 2) (two v) ∷ ws) (mend_fore s b r i v)
  unfolding mend_fore
  by_mend_fore n = by_mend record { high = n.high; wide = omega (arith, n.wide) }

  pub by_head_count : {s : Shape} {r i v : ℕ} → Fit s r i 5 → Ran a (put s r i (one v) ∷ ws) (set_head_count s b r i v)
  unfolding set_head_count
  by_head_count f = by_poke record { row = f.row; wide = omega (arith, f.wide) }

  pub by_set_last : {s : Shape} {r i v : ℕ} → Fit s r i 5 → Ran a (put s r (i + 1) (two v) ∷ ws) (set_last s b r i v)
  unfolding set_last
  by_set_last f = by_poke_link record { row = f.row; wide = omega (arith, f.wide) }

  pub by_set_first : {s : Shape} {r i v : ℕ} → Fit s r i 5 → Ran a (put s r (i + 3) (two v) ∷ ws) (set_first s b r i v)
  unfolding set_first
  by_set_first f = by_poke_link record { row = f.row; wide = omega (arith, f.wide) }

  pub by_next_freed : {s : Shape} {r v : ℕ} → Fit s r 0 1 → Ran a (put s r 0 (one v) ∷ ws) (set_next_freed s b r v)
  unfolding set_next_freed
  by_next_freed f = by_poke f

  pub by_synonym_count : {s : Shape} {r v : ℕ} → Fit s r 0 5 → Ran a (put s r 0 (one v) ∷ ws) (set_synonym_count s b r v)
  unfolding set_synonym_count
  by_synonym_count f = by_poke record { row = f.row; wide = omega (arith, f.wide) }

  pub by_synonym_back : {s : Shape} {r v : ℕ} → Near s r 0 5 → Ran a (put s r 1 (two v) ∷ ws) (mend_synonym_back s b r v)
  unfolding mend_synonym_back
  by_synonym_back n = by_mend record { high = n.high; wide = omega (arith, n.wide) }

  pub by_synonym_fore : {s : Shape} {r v : ℕ} → Near s r 0 5 → Ran a (put s r 3 (two v) ∷ ws) (mend_synonym_fore s b r v)
  unfolding mend_synonym_fore
  by_synonym_fore n = by_mend record { high = n.high; wide = omega (arith, n.wide) }

pub by_synonyms : {a b : Area} {ws : List Write} (R : Ran a ws b) {s : Shape} {r : ℕ} {y : Head} → Fit s r 0 5
    → Ran a (put s r 3 (two y.fore) ∷ put s r 1 (two y.back) ∷ put s r 0 (one y.count) ∷ ws) (set_synonyms s b r y)
unfolding set_synonyms
by_synonyms R f = by_poke_link (by_poke_link (by_poke R record { row = f.row; wide = omega (arith, f.wide) }) record { row = f.row; wide = omega (arith, f.wide) }) record { row = f.row; wide = omega (arith, f.wide) }

-- ---- what a run of writes leaves, and what it shows

module _ {a b : Area} {ws : List Write} (R : Ran a ws b) where
  pub ran_length : length b ≡ length a
  ran_length = ap length R.made ∙ run_length ws a

  -- a spot that no write touches
  pub ran_held : (x : Spot) → All (λ w. Misses w x) ws → held b x ≡ held a x
  ran_held x p = ap (λ c. held c x) R.made ∙ run_frame ws a x p

  pub ran_val : (x : Spot) → All (λ w. Misses w x) ws → val b x ≡ val a x
  ran_val x p = ap num (ran_held x p)

  pub ran_alive : (s : Shape) (r : ℕ) → All (λ w. Misses w (flag s r)) ws → alive b s r ≡ alive a s r
  ran_alive s r p = ap (λ v. eqb v 1) (ran_val (flag s r) p)

  -- a set that no write touches
  pub ran_kept : (t : Shape) → All (λ w. Beside (set_of (target w)) t) ws → Kept t a b
  ran_kept t p = subst (Kept t a) (sym R.made) (run_kept ws a t p)

  -- a spot that a write shows, as words, as a number, as a bit
  module _ {size : ℕ} (l : length a ≡ size) where
    pub shows_held : (x : Spot) {vs : List ℕ} → Left size x vs ws → held b x ≡ vs
    shows_held x h = ap (λ c. held c x) R.made ∙ run_left x ws a l h

    pub shows_val : (x : Spot) {vs : List ℕ} {v : ℕ} → Left size x vs ws → num vs ≡ v → val b x ≡ v
    shows_val x h e = ap num (shows_held x h) ∙ e

    pub shows_alive : (s : Shape) (r : ℕ) (t : Bool) → Left size (flag s r) (digit t ∷ []) ws → alive b s r ≡ t
    shows_alive s r t h = ap (λ v. eqb v 1) (shows_val (flag s r) h (num_one (digit t))) ∙ go t
      where
        go : (t : Bool) → eqb (digit t) 1 ≡ t
        go true = refl
        go false = refl
