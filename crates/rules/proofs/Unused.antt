-- The places of a set's items and paths, and the places after them that must be 0. Assumes nothing.
use Rattle.std.specs.Prelude.{ℕ, zero, suc, ◌+◌, ◌*◌, ◌≤◌, ◌<◌, ◌-◌, ◌≡◌, refl, Bool, ◌&&◌, List, get_or, take, drop, eqb}
use Rattle.std.proofs.Common.{arith, ◌∙◌, ne_eqb}
use Rattle.std.proofs.lemmas.Bool.Decides.{nat_tests}
use Rattle.std.proofs.lemmas.Grind.{common_steps}
use lib.Bits.{bit_or, bit_and, or_zero_l, or_add_and, and_le_r}
use Rattle.spec.specs.Words.{all}
use Rattle.spec.specs.Root.{item_count, path_count, path_master, path_search, path_sort, set_item, item_listed, description, set_item_good, path_good, path_empty, set_path_good}
use Rattle.root.specs.Good.{place_listed, triple_path}
use Rattle.rules.specs.Rules.{unused}
use Rattle.rules.proofs.Steps.{all_step}

-- ---- a test of all, in parts
joined : (a b c : Bool) → (a && b) && c ≡ a && (b && c)
joined a b c = grind arith

-- of the first k, and of the n after them
all_parts : (f : ℕ → Bool) (k n : ℕ) → all (k + n) f ≡ all k f && all n (λ i. f (k + i))
unfolding all
all_parts f k zero = grind arith
all_parts f k (suc n) =
    let e : k + suc n - 1 ≡ k + n = omega arith in
    rw (all_step f (k + suc n) (omega arith), e, all_parts f k n) (joined (all k f) (all n (λ i. f (k + i))) (f (k + suc n)))

-- of three at a time
all_threes : (f : ℕ → Bool) (n : ℕ) → all (3 * n) f ≡ all n (λ k. f (3 * k - 2) && f (3 * k - 1) && f (3 * k))
unfolding all
all_threes f zero = refl
all_threes f (suc n) =
    let a : 3 * suc n - 2 ≡ 3 * n + 1 = omega arith in
    let b : 3 * suc n - 1 ≡ 3 * n + 2 = omega arith in
    let c : 3 * suc n ≡ 3 * n + 3 = omega arith in
    rw (a, b, c, all_parts f (3 * n) 3, all_threes f n)

all_alike : (f g : ℕ → Bool) (n : ℕ) → ((i : ℕ) → 1 ≤ i → i ≤ n → f i ≡ g i) → all n f ≡ all n g
unfolding all
all_alike f g zero e = refl
all_alike f g (suc n) e = rw (all_alike f g n (λ i l h. e i l (omega arith)), e (suc n) (omega arith) (omega arith))

-- ---- unused places
none_of : (a b : ℕ) → eqb (bit_or a b) 0 ≡ eqb a 0 && eqb b 0
none_of zero b = rw (or_zero_l b)
none_of (suc a) b =
    let l : bit_and (suc a) b ≤ b = and_le_r (suc a) b in
    let e : bit_or (suc a) b + bit_and (suc a) b ≡ suc a + b = or_add_and (suc a) b in
    rw (ne_eqb (bit_or (suc a) b) 0 (λ z. omega arith), ne_eqb (suc a) 0 (λ z. omega arith))

module _ (root : List ℕ) (at : ℕ) where
  pub zeros_turn :
      (k n seen : ℕ) → k < n → eqb seen 0 ≡ all k (unused root at) →
      eqb (bit_or seen (get_or (take n (drop (at + 1) root)) k 0)) 0 ≡ all (k + 1) (unused root at)
  unfolding unused
  zeros_turn k n seen h e = grind (arith, common_steps, none_of seen (get_or root (at + (k + 1)) 0), all_step (unused root at) (k + 1))

  unused_on : (d i : ℕ) → unused root at (d + i) ≡ unused root (at + d) i
  unfolding unused
  unused_on d i = let e : at + (d + i) ≡ at + d + i = omega arith in rw e

-- two runs that share what stands between d and d + m
shared : (a b c : Bool) → a && (b && c) ≡ (a && b) && (b && c)
shared a b c = grind arith

lapped : (f : ℕ → Bool) (d m : ℕ) → all (d + (m + d)) f ≡ all (d + m) f && all (m + d) (λ i. f (d + i))
lapped f d m =
    rw (all_parts f d (m + d), all_parts f d m, all_parts (λ i. f (d + i)) m d)
    (shared (all d f) (all m (λ i. f (d + i))) (all d (λ i. f (d + (m + i)))))

-- from eight words on they are two runs of eight, which share what is less than sixteen
pub blank_twice :
    (root : List ℕ) (at n : ℕ) → 8 ≤ n → n ≤ 16 → all n (unused root at) ≡ all 8 (unused root at) && all 8 (unused root (at + (n - 8)))
blank_twice root at n low high =
    let x : n - 8 + (16 - n + (n - 8)) ≡ n = omega arith in
    let y : n - 8 + (16 - n) ≡ 8 = omega arith in
    let z : 16 - n + (n - 8) ≡ 8 = omega arith in
    (rw (x, y, z) at (lapped (unused root at) (n - 8) (16 - n)))
    ∙ rw (all_alike (λ i. unused root at (n - 8 + i)) (unused root (at + (n - 8))) 8 (λ i l h. unused_on root at (n - 8) i))

-- ---- the 16 item numbers: the listed ones, and 0 after them
module _ (root : List ℕ) (s : ℕ) where
  abbrev n : ℕ
  n = item_count root s

  place_unused : (k : ℕ) → 1 ≤ k → set_item_good root s (n + k) ≡ unused root (description root s + 4 + item_count root s) k
  unfolding set_item_good unused set_item
  place_unused k l = grind (arith, nat_tests)

  pub items_parts :
      item_count root s ≤ 16 →
      all 16 (set_item_good root s)
      ≡ all (item_count root s) (item_listed root s) && all (16 - item_count root s) (unused root (description root s + 4 + item_count root s))
  items_parts few =
      let z : n + (16 - n) ≡ 16 = omega arith in
      let f : ℕ → Bool = set_item_good root s in
      (rw z at (all_parts f n (16 - n)))
      ∙ rw (all_alike f (item_listed root s) n (λ j l k. place_listed root s j k), all_alike (λ k. f (n + k)) (unused root (description root s + 4 + n)) (16 - n) (λ k l h. place_unused k l))

-- ---- the four triples: the paths, and 0 after them
module _ (root : List ℕ) (s : ℕ) where
  abbrev paths : ℕ
  paths = path_count root s

  abbrev triples : ℕ
  triples = description root s + 20 + 3 * path_count root s

  -- of the k-th triple after the paths the three words are those at 3 k - 2, 3 k - 1 and 3 k
  triple_unused :
      (k : ℕ) → 1 ≤ k →
      set_path_good root s (paths + k) ≡ unused root triples (3 * k - 2) && unused root triples (3 * k - 1) && unused root triples (3 * k)
  unfolding set_path_good path_empty path_master path_search path_sort unused
  triple_unused k l = grind (arith, nat_tests)

  pub paths_parts :
      path_count root s ≤ 4 →
      all 4 (set_path_good root s)
      ≡ all (path_count root s) (path_good root s)
      && all (12 - 3 * path_count root s) (unused root (description root s + 20 + 3 * path_count root s))
  paths_parts few =
      let y : paths + (4 - paths) ≡ 4 = omega arith in
      let z : 3 * (4 - paths) ≡ 12 - 3 * paths = omega arith in
      let f : ℕ → Bool = set_path_good root s in
      let g : ℕ → Bool = unused root triples in
      (rw y at (all_parts f paths (4 - paths)))
      ∙ rw (all_alike f (path_good root s) paths (λ p l k. triple_path root s p k), all_alike (λ k. f (paths + k)) (λ k. g (3 * k - 2) && g (3 * k - 1) && g (3 * k)) (4 - paths) (λ k l h. triple_unused k l), ← z, all_threes g (4 - paths))
