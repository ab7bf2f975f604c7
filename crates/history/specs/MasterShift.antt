-- Where a master's entries stand after a step. An entry's load is its heads and its words, as one run; the steps move loads whole. A put makes a new entry and may move
-- the one that stood in its record; a delete is the same read backward. So each path's heads are carried with their keys.
use Rattle.std.specs.Prelude.{◌≡◌, ◌≢◌, ◌⊎◌, List, false, ℕ, ◌+◌, ◌-◌, ◌≤◌}
use Rattle.std.proofs.Math.Path.{sym, ap}
use Rattle.std.proofs.Common.{◌∙◌, true≢false, arith}
use Rattle.std.proofs.Math.Logic.{inl, inr}
use Rattle.std.proofs.Math.Bool.{true}
use Rattle.std.proofs.Math.Decide.{ℕ_discrete}
use Rattle.spec.specs.declared.Shape.{Shape}
use Rattle.spec.specs.declared.Master.{Master}
use Rattle.spec.specs.Words.{part, same}
use Rattle.spec.specs.Area.{Area}
use Rattle.spec.specs.Master.{address}
use Rattle.history.specs.Layout.{num}
use Rattle.history.specs.MasterKeys.{Carried}
use Rattle.history.specs.Spots.{held, alive, held_part, cell}
use Rattle.history.specs.Sets.{MasterOk}
use Rattle.history.specs.Stores.{entries, heads, same_keys}

-- ---- loads

abbrev pub load : Shape → Area → ℕ → List ℕ
load s a r = held a (cell s r 5 (s.width - 5))

-- records with one load have all the same from place 5 on
pub load_part : (s : Shape) (a b : Area) (x y i n : ℕ) → load s b y ≡ load s a x → 5 ≤ i → i + n ≤ s.width → held b (cell s y i n) ≡ held a (cell s x i n)
load_part s a b x y i n e p q = held_part b s y 5 (s.width - 5) i n (i - 5) (omega arith) (omega arith) (omega arith) ∙ ap (λ ws. part ws (i - 5) n) e
    ∙ sym (held_part a s x 5 (s.width - 5) i n (i - 5) (omega arith) (omega arith) (omega arith))

module _ {size : ℕ} {m : Master} (M : MasterOk size m) (a b : Area) (x y : ℕ) (e : load m.shape b y ≡ load m.shape a x) where
  pub load_key : (entries m b).key y ≡ (entries m a).key x
  unfolding entries
  load_key = load_part m.shape a b x y _ _ e (omega (arith, M.front)) (omega (arith, M.sane.filled, M.key.fits))

  pub load_entry : held b (cell m.shape y m.shape.front m.shape.entry) ≡ held a (cell m.shape x m.shape.front m.shape.entry)
  load_entry = load_part m.shape a b x y _ _ e (omega (arith, M.front)) (omega (arith, M.sane.filled))

  pub load_heads : (i : ℕ) → 5 ≤ i → i + 5 ≤ m.shape.front
      → ((heads m.shape i b).cnt y ≡ (heads m.shape i a).cnt x) × ((heads m.shape i b).first y ≡ (heads m.shape i a).first x) × ((heads m.shape i b).last y ≡ (heads m.shape i a).last x)
  unfolding heads
  load_heads i p q = (
    ap num (load_part m.shape a b x y i 1 e p (omega (arith, M.sane.filled))),
    ap num (load_part m.shape a b x y (i + 3) 2 e (omega arith) (omega (arith, M.sane.filled))),
    ap num (load_part m.shape a b x y (i + 1) 2 e (omega arith) (omega (arith, M.sane.filled))),
  )

-- ---- where they stand

-- b has one entry more than a, in record r. If r held another in a, that one is in f in b; otherwise f is r. All else stands where it stood.
pub record Shift (s : Shape) (a b : Area) (r f : ℕ) : Type 0 where
  pub was : alive a s f ≡ false
  pub now : alive b s r ≡ true
  pub moved : (f ≡ r) ⊎ ((alive a s r ≡ true) × (alive b s f ≡ true) × (load s b f ≡ load s a r))
  pub flags : (j : ℕ) → j ≢ r → j ≢ f → alive b s j ≡ alive a s j
  pub loads : (j : ℕ) → j ≢ r → j ≢ f → load s b j ≡ load s a j

pub live_other : (a : Area) (s : Shape) (x y : ℕ) → alive a s x ≡ true → alive a s y ≡ false → x ≢ y
live_other a s x y l d e = true≢false (sym l ∙ ap (alive a s) e ∙ d)

module _ {s : Shape} {a b : Area} {r f : ℕ} (H : Shift s a b r f) where
  -- each entry of a is in b, and not in r; each of b that is not in r was in a
  pub to : (x : ℕ) → alive a s x ≡ true → (y : ℕ) × (alive b s y ≡ true) × (y ≢ r) × (load s b y ≡ load s a x)
  to x l = go (ℕ_discrete x r) H.moved
    where
      go : Dec (x ≡ r) → (f ≡ r) ⊎ ((alive a s r ≡ true) × (alive b s f ≡ true) × (load s b f ≡ load s a r)) → (y : ℕ) × (alive b s y ≡ true) × (y ≢ r) × (load s b y ≡ load s a x)
      go (no d) _ = let q = live_other a s x f l H.was in (x, H.flags x d q ∙ l, d, H.loads x d q)
      go (yes e) (inl q) = absurd (live_other a s x f l H.was (e ∙ sym q))
      go (yes e) (inr (p, q, w)) = (f, q, (λ z. live_other a s r f p H.was (sym z)), w ∙ ap (load s a) (sym e))

  pub from : (y : ℕ) → alive b s y ≡ true → y ≢ r → (x : ℕ) × (alive a s x ≡ true) × (load s b y ≡ load s a x)
  from y l d = go (ℕ_discrete y f) H.moved
    where
      go : Dec (y ≡ f) → (f ≡ r) ⊎ ((alive a s r ≡ true) × (alive b s f ≡ true) × (load s b f ≡ load s a r)) → (x : ℕ) × (alive a s x ≡ true) × (load s b y ≡ load s a x)
      go (no q) _ = (y, sym (H.flags y d q) ∙ l, H.loads y d q)
      go (yes e) (inl q) = absurd (d (e ∙ q))
      go (yes e) (inr (p, q, w)) = (r, p, ap (load s b) e ∙ w)

  -- a record that is unused in b was so in a, and is not r or f
  pub unused_before : (y : ℕ) → alive b s y ≡ false → (y ≢ r) × (y ≢ f) × (alive a s y ≡ false)
  unused_before y d = go H.moved
    where
      off : y ≢ r
      off e = live_other b s r y H.now d (sym e)

      go : (f ≡ r) ⊎ ((alive a s r ≡ true) × (alive b s f ≡ true) × (load s b f ≡ load s a r)) → (y ≢ r) × (y ≢ f) × (alive a s y ≡ false)
      go (inl q) = let n : y ≢ f = λ e. off (e ∙ q) in (off, n, sym (H.flags y off n) ∙ d)
      go (inr (p, q, w)) = let n : y ≢ f = λ e. live_other b s f y q d (sym e) in (off, n, sym (H.flags y off n) ∙ d)

-- ---- so a path sees

-- a step of the master as the path with its head at place i sees it
abbrev pub Carries : Master → Area → Area → ℕ → Type 0
Carries m a b i = Carried (address m) same same_keys m.shape.cap (entries m a) (entries m b) (heads m.shape i a) (heads m.shape i b)

module _ {size : ℕ} {m : Master} (M : MasterOk size m) {a b : Area} {r f : ℕ} where
  -- a put: the new entry's key was nobody's, and its head is empty
  pub put_carries : Shift m.shape a b r f → ((x : ℕ) → alive a m.shape x ≡ true → (entries m a).key x ≢ (entries m b).key r)
      → (i : ℕ) → 5 ≤ i → i + 5 ≤ m.shape.front → ((heads m.shape i b).cnt r ≡ 0) × ((heads m.shape i b).first r ≡ 0) × ((heads m.shape i b).last r ≡ 0) → Carries m a b i
  unfolding entries
  put_carries H fresh i p q z = record {
    came = λ y l. came y l (ℕ_discrete y r);
    stayed = λ x l _. let w = to H x l in (w.0, w.1, load_key M a b x w.0 w.3);
  }
    where
      came : (y : ℕ) → alive b m.shape y ≡ true → Dec (y ≡ r)
          → ((x : ℕ) × ((entries m a).live x ≡ true) × ((entries m a).key x ≡ (entries m b).key y) × ((heads m.shape i b).cnt y ≡ (heads m.shape i a).cnt x) × ((heads m.shape i b).first y ≡ (heads m.shape i a).first x) × ((heads m.shape i b).last y ≡ (heads m.shape i a).last x))
          ⊎ (((x : ℕ) → (entries m a).live x ≡ true → (entries m a).key x ≢ (entries m b).key y) × ((heads m.shape i b).cnt y ≡ 0) × ((heads m.shape i b).first y ≡ 0) × ((heads m.shape i b).last y ≡ 0))
      came y l (yes e) = inr (rw e (fresh, z.0, z.1, z.2))
      came y l (no d) = let w = from H y l d in let h = load_heads M a b w.0 y w.2 i p q in inl (w.0, w.1, sym (load_key M a b w.0 y w.2), h.0, h.1, h.2)

  -- a delete: the entry that goes has no lines on this path
  pub gone_carries : Shift m.shape b a r f → (i : ℕ) → 5 ≤ i → i + 5 ≤ m.shape.front → (heads m.shape i a).cnt r ≡ 0 → Carries m a b i
  unfolding entries
  gone_carries H i p q z = record {
    came = λ y l. let w = to H y l in let h = load_heads M b a y w.0 w.3 i p q in inl (w.0, w.1, load_key M b a y w.0 w.3, sym h.0, sym h.1, sym h.2);
    stayed = λ x l n. let w = from H x l (λ e. n (ap (heads m.shape i a).cnt e ∙ z)) in (w.0, w.1, sym (load_key M b a w.0 x w.2));
  }
