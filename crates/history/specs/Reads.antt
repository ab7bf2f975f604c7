-- The definitions' readers as spots, and that they accept what is within bounds, live, and not itself. Each law asks only that the record is one of the set's and that
-- its words reach so far.
use Rattle.std.specs.Prelude.{◌≡◌, refl, ◌≢◌, ◌⊎◌, Bool, true, false, ◌&&◌, not, ◌||◌, ℕ, ◌+◌, ◌≤◌, length, leb}
use Rattle.std.proofs.Math.Path.{sym, ap}
use Rattle.std.proofs.Common.{◌∙◌, inl, inr, true≢false, arith, le-leb, eq-eqb, ne_eqb, add-zero}
use Rattle.std.proofs.Math.Dec.{eqb}
use Rattle.spec.specs.declared.Shape.{Shape}
use Rattle.spec.specs.Area.{Area, live, place, peek, peek_link, peek_part, entry_at, value_at, mark, freed, next_freed, read, read_synonym, follow, read_head, peek_links, read_links, synonym_count, synonyms}
use Rattle.history.specs.Walk.{by_bool}
use Rattle.history.specs.Layout.{words, num, at}
use Rattle.spec.specs.declared.Refusal.TheVariants.{Broken}
use Rattle.spec.specs.declared.Field.{Field}
use Rattle.spec.specs.declared.Head.{Head}
use Rattle.spec.specs.declared.Links.{Links}
use Rattle.spec.specs.Outcome.{accept}
use Rattle.spec.specs.Follow.{goes, taken, passes}
use Rattle.history.specs.Runs.{part_words, num_one, num_two}
use Rattle.history.specs.Shapes.{Sane, In, has, has_in, in_has, Fit}
use Rattle.history.specs.Spots.{real, raw, held, val, alive, held_real, held_none, fit_real, cell_inside, lead, flag, cell}

module _ (a : Area) {s : Shape} {r i : ℕ} where
  pub peek_val : Fit s r i 1 → peek s a r i ≡ val a (cell s r i 1)
  unfolding peek place raw at words
  peek_val f = sym (ap num (held_real a (cell s r i 1) (fit_real f)) ∙ num_one _)

  pub peek_link_val : Fit s r i 2 → peek_link s a r i ≡ val a (cell s r i 2)
  unfolding peek_link place raw at
  peek_link_val f = sym (ap num (held_real a (cell s r i 2) (fit_real f)) ∙ num_two a _)

  pub peek_part_held : {size n : ℕ} → Sane size s → length a ≡ size → Fit s r i n → peek_part s a r i n ≡ held a (cell s r i n)
  unfolding peek_part place raw at
  peek_part_held {n = n} S l f = part_words a _ n (unfold at in (rw l (cell_inside S f))) ∙ sym (held_real a (cell s r i n) (fit_real f))

module _ (a : Area) {s : Shape} where
  pub live_alive : {r : ℕ} → In s r → live s a r ≡ alive a s r
  unfolding live raw real
  live_alive {r} h = sym (ap (λ ws. eqb (num ws) 1) (held_real a (flag s r) (in_has s r h)) ∙ ap (λ v. eqb v 1) (num_one _))

  pub alive_in : (r : ℕ) → alive a s r ≡ true → In s r
  unfolding num
  alive_in r e = by_bool (has s r) (λ g. has_in s r g) (λ g. absurd (true≢false (sym e ∙ ap (λ ws. eqb (num ws) 1) (held_none a (flag s r) (unfold real in g)))))

  pub entry_at_held : {size r : ℕ} → Sane size s → length a ≡ size → In s r → entry_at s a r ≡ held a (cell s r s.front s.entry)
  unfolding entry_at
  entry_at_held S l h = peek_part_held a S l record { row = h; wide = omega (arith, S.filled) }

  pub value_at_held : {size r : ℕ} (f : Field) → Sane size s → length a ≡ size → In s r → f.at + f.size ≤ s.entry → value_at s f a r ≡ held a (cell s r (s.front + f.at) f.size)
  unfolding value_at
  value_at_held f S l h b = peek_part_held a S l record { row = h; wide = omega (arith, S.filled) }

  module _ {r : ℕ} where
    pub next_freed_val : Fit s r 0 1 → next_freed s a r ≡ val a (cell s r 0 1)
    unfolding next_freed
    next_freed_val f = peek_val a f

    pub synonym_count_val : Fit s r 0 1 → synonym_count s a r ≡ val a (cell s r 0 1)
    unfolding synonym_count
    synonym_count_val f = peek_val a f

module _ (a : Area) (s : Shape) where
  pub mark_val : mark s a ≡ val a (lead s 0)
  unfolding mark raw real words
  mark_val = sym (ap num (held_real a (lead s 0) refl) ∙ num_one _)

  pub freed_val : freed s a ≡ val a (lead s 1)
  unfolding freed raw real words
  freed_val = sym (ap num (held_real a (lead s 1) refl) ∙ num_one _)

-- the three numbers of a head, or of the synonym words (at 0); the two links of a line
abbrev pub head_in : Area → Shape → ℕ → ℕ → Head
head_in a s r i = record { count = val a (cell s r i 1); back = val a (cell s r (i + 1) 2); fore = val a (cell s r (i + 3) 2) }

abbrev pub links_in : Area → Shape → ℕ → ℕ → Links
links_in a s r i = record { back = val a (cell s r i 2); fore = val a (cell s r (i + 2) 2) }

-- ---- reading, with the rules of answer 18

pub read_accepts : (limit n : ℕ) → n ≤ limit → read limit n ≡ accept n
unfolding read
read_accepts limit n h = taken _ _ (le-leb n limit h) refl

pub read_synonym_accepts : (limit r n : ℕ) → n ≤ limit → n ≢ r → read_synonym limit r n ≡ accept n
unfolding read_synonym
read_synonym_accepts limit r n h d = taken {b = leb n limit && not (eqb n r)} _ _ (rw (le-leb n limit h, ne_eqb n r d)) refl

pub follow_accepts : (a : Area) (s : Shape) (r : ℕ) → (r ≡ 0) ⊎ (alive a s r ≡ true) → follow s a r ≡ accept tt
unfolding follow
follow_accepts a s r (inl e) = passes Broken {b = eqb r 0 || live s a r} (rw (eq-eqb r 0 e))
follow_accepts a s r (inr e) = passes Broken (go (eqb r 0))
  where
    go : (t : Bool) → (t || live s a r) ≡ true
    go true = refl
    go false = live_alive a (alive_in a r e) ∙ e

module _ (a : Area) {s : Shape} {r i : ℕ} where
  pub peek_links_in : Fit s r i 4 → peek_links s a r i ≡ links_in a s r i
  unfolding peek_links
  peek_links_in f = rw (add-zero i, peek_link_val a {s = s} {r = r} {i = i} record { row = f.row; wide = omega (arith, f.wide) }, peek_link_val a {s = s} {r = r} {i = i + 2} record { row = f.row; wide = omega (arith, f.wide) })

  pub read_links_accepts : Fit s r i 4 → (links_in a s r i).back ≤ s.cap → (links_in a s r i).fore ≤ s.cap → read_links s a r i ≡ accept (links_in a s r i)
  unfolding read_links
  read_links_accepts f b g = rw (add-zero i, peek_link_val a {s = s} {r = r} {i = i} record { row = f.row; wide = omega (arith, f.wide) }, peek_link_val a {s = s} {r = r} {i = i + 2} record { row = f.row; wide = omega (arith, f.wide) })
      (goes _ (read_accepts _ _ b) (goes _ (read_accepts _ _ g) refl))

  pub read_head_accepts : (limit : ℕ) → Fit s r i 5 → (head_in a s r i).count ≤ limit → (head_in a s r i).back ≤ limit → (head_in a s r i).fore ≤ limit → read_head limit s a r i ≡ accept (head_in a s r i)
  unfolding read_head
  read_head_accepts limit f c b g = rw (
    peek_val a {s = s} {r = r} {i = i} record { row = f.row; wide = omega (arith, f.wide) },
    peek_link_val a {s = s} {r = r} {i = i + 1} record { row = f.row; wide = omega (arith, f.wide) },
    peek_link_val a {s = s} {r = r} {i = i + 3} record { row = f.row; wide = omega (arith, f.wide) },
  )
      (goes _ (read_accepts _ _ c) (goes _ (read_accepts _ _ b) (goes _ (read_accepts _ _ g) refl)))

module _ (a : Area) {s : Shape} {r : ℕ} where
  pub synonyms_accepts : Fit s r 0 5 → let y = head_in a s r 0 in y.count ≤ s.cap → y.back ≤ s.cap → y.back ≢ r → y.fore ≤ s.cap → y.fore ≢ r → synonyms s a r ≡ accept (head_in a s r 0)
  unfolding synonyms
  synonyms_accepts f c b b' g g' = rw (
    synonym_count_val a {s = s} {r = r} record { row = f.row; wide = omega (arith, f.wide) },
    peek_link_val a {s = s} {r = r} {i = 1} record { row = f.row; wide = omega (arith, f.wide) },
    peek_link_val a {s = s} {r = r} {i = 3} record { row = f.row; wide = omega (arith, f.wide) },
  )
      (goes _ (read_accepts _ _ c) (goes _ (read_synonym_accepts _ _ _ b b') (goes _ (read_synonym_accepts _ _ _ g g') refl)))
