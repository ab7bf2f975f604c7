-- The base in the middle of a line's delete: on the paths before the i-th the line is off its chain, on the others not yet, and its record is live to the end. So the
-- lines on the chains and those in the records are different lists there; heads are within the capacities all the same.
use Rattle.std.specs.Prelude.{◌≡◌, ◌≢◌, ◌⊎◌, List, true, false, ◌&&◌, ℕ, ◌+◌, ◌*◌, ◌≤◌, ◌<◌, length, get_or, eqb}
use Rattle.std.proofs.Math.Path.{refl}
use Rattle.std.proofs.Common.{sym, ap, ◌∙◌, subst, inl, inr, true≢false, arith}
use Rattle.std.proofs.Math.Logic.{dite}
use Rattle.std.proofs.Math.Decide.{dec_lt}
use Rattle.std.proofs.Math.Dec.{ltb}
use borrow.Author.Tests.{eq-eqb, ne_eqb, eqb-true, lt-ltb, le-ltb}
use Rattle.spec.specs.declared.Shape.{Shape}
use Rattle.spec.specs.declared.Path.{Path}
use Rattle.spec.specs.Words.{same}
use Rattle.spec.specs.Root.{kind, path_master, automatic, detail, root_good}
use Rattle.spec.specs.Layout.{area_length, shape_of, master_of, path_of, heads_of}
use Rattle.spec.specs.Area.{Area}
use Rattle.history.specs.Chain.{All, all_map}
use Rattle.history.specs.Walk.{by_bool}
use Rattle.history.specs.Sorted.{all_keep}
use Rattle.history.specs.History.{del}
use Rattle.history.specs.PathInv.{count_bound}
use Rattle.history.specs.PathLinks.{head_links}
use Rattle.history.specs.Shapes.{Beside}
use Rattle.history.specs.Spots.{val, alive, cell}
use Rattle.history.specs.Reads.{alive_in, head_in}
use Rattle.history.specs.Good.{Set, Way, DetailSet, detail_set, way_facts}
use Rattle.history.specs.Heads.{heads_length}
use Rattle.history.specs.Sets.{beside, Owned, owned}
use Rattle.history.specs.Stores.{entries, same_keys}
use Rattle.history.specs.MasterInv.{MasterInv}
use Rattle.history.specs.MasterDelete.{Within}
use Rattle.history.specs.PathLines.{PLine, line_record, line_key, above, path_order, pstore, On, Tied, Tie, Where, seen_here, seen_count, seen_first, seen_last}
use Rattle.history.specs.PathReads.{where_live}
use Rattle.history.specs.FreeInv.{FreeInv}
use Rattle.history.specs.Base.{Lines, IsSet, IsPath, Used, lines_gone}

-- ---- sets and paths

module _ {root : List ℕ} where
  pub as_set : {t : ℕ} → IsSet root t → Set root t
  as_set S = record { low = S.low; high = S.high }

  pub as_way : {t q : ℕ} → IsPath root t q → Way root t q
  as_way H = record { low = H.low; high = H.high }

  pub is_set : {t : ℕ} → Set root t → IsSet root t
  is_set S = record { low = S.low; high = S.high }

  pub is_path : {t q : ℕ} → Set root t → DetailSet root t → Way root t q → IsPath root t q
  is_path S D h = record { set = is_set S; lines = D.is_detail; low = h.low; high = h.high }

-- an automatic set is no detail, and a detail no master
pub auto_master : (k : ℕ) → automatic k ≡ true → detail k ≡ false
auto_master k e = ne_eqb k 3 (λ z. omega (arith, eqb-true k 2 e))

pub detail_other : (root : List ℕ) {t m : ℕ} → detail (kind root t) ≡ true → detail (kind root m) ≡ false → t ≢ m
detail_other root d e z = true≢false (sym d ∙ ap (λ n. detail (kind root n)) z ∙ e)

module _ (root : List ℕ) (g : root_good root ≡ true) where
  pub details : {t q : ℕ} → IsPath root t q → DetailSet root t
  details {t} H = detail_set root g t (as_set H.set) H.lines

  -- the master of a path
  pub leads_to : {t q : ℕ} → IsPath root t q → IsSet root (path_master root t q)
  leads_to {t} {q} H = is_set (way_facts root g t q (as_set H.set) (details H) (as_way H)).to

  pub leads_master : {t q : ℕ} → IsPath root t q → detail (kind root (path_master root t q)) ≡ false
  leads_master {t} {q} H = (way_facts root g t q (as_set H.set) (details H) (as_way H)).to_master.not_detail

  pub sets_beside : {t u : ℕ} → IsSet root t → IsSet root u → t ≢ u → Beside (shape_of root t) (shape_of root u)
  sets_beside {t} {u} S T n = beside root g t u (as_set S) (as_set T) n

-- ---- the lines on the chains

-- of set s, record r is off the paths before i
unfoldable pub half : Lines → ℕ → ℕ → ℕ → ℕ → ℕ → List PLine
half L s r i t q = elim (eqb t s && ltb q i) [ true ↦ del line_record r (L t q) | false ↦ L t q ]

module _ (L : Lines) (s r : ℕ) where
  pub half_here : (i : ℕ) → half L s r i s i ≡ L s i
  unfolding half
  half_here i = rw (eq-eqb s s refl, le-ltb i i (omega arith), half)

  pub half_next : (i : ℕ) → half L s r (i + 1) s i ≡ del line_record r (L s i)
  unfolding half
  half_next i = rw (eq-eqb s s refl, lt-ltb i (i + 1) (omega arith), half)

  pub half_else : (i t q : ℕ) → (t ≢ s) ⊎ (q ≢ i) → half L s r (i + 1) t q ≡ half L s r i t q
  unfolding half
  half_else i t q (inl n) = rw (ne_eqb t s n, half)
  half_else i t q (inr n) = dite (dec_lt q i)
      (λ h. rw (lt-ltb q i h, lt-ltb q (i + 1) (omega arith), half))
      (λ h. rw (le-ltb q i (omega arith), le-ltb q (i + 1) (omega arith), half))

  pub half_off : (i t q : ℕ) → t ≢ s → half L s r i t q ≡ L t q
  unfolding half
  half_off i t q n = rw (ne_eqb t s n, half)

  -- before the first path nothing, after the last all
  pub half_start : (t q : ℕ) → 1 ≤ q → half L s r 1 t q ≡ L t q
  unfolding half
  half_start t q h = by_bool (eqb t s) (λ e. rw (e, le-ltb q 1 h, half)) (λ e. rw (e, half))

  pub half_gone : (i t q : ℕ) → q < i → half L s r i t q ≡ lines_gone L s r t q
  unfolding half lines_gone
  half_gone i t q h = by_bool (eqb t s) (λ e. rw (e, lt-ltb q i h, half, lines_gone)) (λ e. rw (e, half, lines_gone))

  pub half_all : (P : PLine → Type 0) (i t q : ℕ) → All P (L t q) → All P (half L s r i t q)
  unfolding half
  half_all P i t q h = by_bool (eqb t s && ltb q i) (λ e. rw (e, half) (all_keep P _ (L t q) h)) (λ e. rw (e, half) h)

-- ---- the state

-- b is a in the middle of the delete of line r of set s, at path i
pub record Middle (root : List ℕ) (L : Lines) (freed : ℕ → List ℕ) (s r : ℕ) (a : Area) (i : ℕ) (b : Area) : Type 0 where
  pub size : length b ≡ area_length root
  pub masters : (m : ℕ) → IsSet root m → detail (kind root m) ≡ false → MasterInv (area_length root) (master_of root m) b
  pub frees : (t : ℕ) → IsSet root t → detail (kind root t) ≡ true → FreeInv (shape_of root t) b (freed t)
  pub maps : (t k : ℕ) → IsSet root t → detail (kind root t) ≡ true → alive b (shape_of root t) k ≡ alive a (shape_of root t) k
  pub ons : (t q : ℕ) → IsPath root t q → On (shape_of root t) (path_of root t q) b (half L s r i t q)
  pub ties : (t q : ℕ) → IsPath root t q → Tie (shape_of root t) (path_of root t q) b (L t q)

-- each automatic entry counts lines
pub record AllUsed (root : List ℕ) (b : Area) : Type 0 where
  pub uses : (m : ℕ) → IsSet root m → automatic (kind root m) ≡ true → (k : ℕ) → alive b (shape_of root m) k ≡ true → Used root m b k

-- each but entry j of master n, which has just lost one
pub record UsedBut (root : List ℕ) (b : Area) (n j : ℕ) : Type 0 where
  pub uses : (m : ℕ) → IsSet root m → automatic (kind root m) ≡ true → (k : ℕ) → alive b (shape_of root m) k ≡ true → (m ≢ n) ⊎ (k ≢ j) → Used root m b k

-- an entry with the same counts as one that counts lines
pub used_same : {root : List ℕ} {m : ℕ} {b c : Area} {k j : ℕ}
    → ((i : ℕ) → i < (master_of root m).leads → val c (cell (shape_of root m) j (5 + 5 * i) 1) ≡ val b (cell (shape_of root m) k (5 + 5 * i) 1)) → Used root m b k → Used root m c j
used_same h U = record { slot = U.slot; in_record = U.in_record; counts = λ z. U.counts (sym (h U.slot U.in_record) ∙ z) }

-- ---- heads

-- a head is within the capacity if the records of the lines on its path's chains are
pub head_within : {d : Shape} {p : Path} {a : Area} {xs : List PLine} {key : List ℕ} {k : ℕ} → On d p a xs → All (λ y. y.rec ≤ d.cap) xs → Where p a key k
    → Within d.cap (head_in a p.to.shape k p.head)
head_within {d} {p} {a} {xs} {key} {k} I A W =
    let ends = head_links line_record line_key same (above p) same_keys (path_order p) (pstore d p a) xs I.inv (λ j. j ≤ d.cap) (omega arith) A key (seen_here W d) in
    record {
      count = subst (λ n. n ≤ d.cap) (seen_count W d) (count_bound line_record line_key same (above p) same_keys (path_order p) (pstore d p a) xs d.cap key I.inv (seen_here W d) A);
      back = subst (λ n. n ≤ d.cap) (seen_last W d) ends.0;
      fore = subst (λ n. n ≤ d.cap) (seen_first W d) ends.1;
    }

-- a master's heads are as many as the capacities that they are held against
pub as_many : (root : List ℕ) (m : ℕ) → length (heads_of root m) ≡ (master_of root m).leads
unfolding master_of
as_many root m = heads_length root m

-- so every head of a master's live record is, each against the capacity of the detail that its slot is of
module _ {root : List ℕ} (g : root_good root ≡ true) {L : Lines} {freed : ℕ → List ℕ} {s r i : ℕ} {a b : Area} (M : Middle root L freed s r a i b) where
  pub slots_within : (m : ℕ) → IsSet root m → detail (kind root m) ≡ false → (k : ℕ) → alive b (master_of root m).shape k ≡ true
      → (j : ℕ) → j < length (heads_of root m) → Within (get_or (heads_of root m) j 0) (head_in b (master_of root m).shape k (5 + 5 * j))
  slots_within m S D k l j h = go (owned root g m j (omega (arith, as_many root m)))
    where
      go : Owned root g m j → Within (get_or (heads_of root m) j 0) (head_in b (master_of root m).shape k (5 + 5 * j))
      go o =
          let t = o.set in
          let q = o.path in
          let p = path_of root t q in
          let d = shape_of root t in
          let H : IsPath root t q = is_path o.set_in o.is_detail o.path_in in
          let I : MasterInv (area_length root) p.to b = subst (λ n. MasterInv (area_length root) n b) (sym o.leads) (M.masters m S D) in
          let W : Where p b ((entries p.to b).key k) k = where_live I.chains k (subst (λ n. alive b n.shape k ≡ true) (sym o.leads) l) in
          let A : All (λ y. y.rec ≤ d.cap) (half L s r i t q) = half_all L s r (λ y. y.rec ≤ d.cap) i t q (all_map (L t q) (λ y (z : Tied d p b y). (alive_in b y.rec z.live).high) (M.ties t q H).each) in
          let w : Within d.cap (head_in b p.to.shape k p.head) = head_within (M.ons t q H) A W in
          subst (λ c. Within c (head_in b (master_of root m).shape k (5 + 5 * j))) (sym o.cap)
          (subst (λ e. Within d.cap (head_in b (master_of root m).shape k e)) o.head (subst (λ n. Within d.cap (head_in b n.shape k p.head)) o.leads w))
