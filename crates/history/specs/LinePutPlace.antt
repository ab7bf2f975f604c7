-- The second half of a put's turn on a path: the new line is placed on the chain of its key's entry, and the middle of the put stays right. After it every automatic
-- entry has a line again.
use Rattle.std.specs.Prelude.{◌≡◌, ◌≢◌, ◌⊎◌, List, true, false, ℕ, ◌+◌, ◌*◌, length}
use Rattle.std.proofs.Math.Path.{sym, ap, subst}
use Rattle.std.proofs.Common.{◌∙◌, inl, inr, arith}
use Rattle.std.proofs.Math.Logic.{Ne-symm}
use Rattle.std.proofs.Math.Bool.{true≢false}
use Rattle.std.proofs.Math.Decide.{ℕ_discrete}
use Rattle.spec.specs.declared.Shape.{Shape}
use Rattle.spec.specs.Root.{kind, path_master, automatic, detail, root_good}
use Rattle.spec.specs.Layout.{area_length, shape_of, master_of, path_of}
use Rattle.spec.specs.Area.{Area, value}
use Rattle.history.specs.Layout.{num}
use Rattle.history.specs.Shapes.{Sane, In}
use Rattle.history.specs.Spots.{val, alive, cell}
use Rattle.history.specs.Apart.{Kept}
use Rattle.history.specs.Good.{Set, DetailSet, WayFacts, way_facts}
use Rattle.history.specs.Sets.{PathOk, sane, beside, path_ok}
use Rattle.history.specs.Stores.{kept_val, kept_alive}
use Rattle.history.specs.MasterInv.{MasterInv, master_same, master_kept}
use Rattle.history.specs.MasterShift.{live_other}
use Rattle.history.specs.PathLines.{On, Tie, Where}
use Rattle.history.specs.PathFrame.{still_then, frame_entries, frame_tie, apart_on, tie_kept, paths_apart}
use Rattle.history.specs.PathPut.{PutOn, put_on}
use Rattle.history.specs.FreeInv.{free_kept}
use Rattle.history.specs.Base.{Lines, IsSet, IsPath, Used}
use Rattle.history.specs.LinePutState.{as_set, as_way, as_detail, auto_detail, lines_to, lines_done, lines_todo, lines_step, Middle, Uses, UsesBut, used_moved}

module _ (root : List ℕ) (g : root_good root ≡ true) {L : Lines} {s r : ℕ} {entry : List ℕ} {freed : ℕ → List ℕ} {a b : Area} (i : ℕ) (P : IsPath root s i) (k : ℕ)
    (M : Middle root L s r freed a (lines_to root L s entry r i) b) (live : alive b (path_of root s i).to.shape k ≡ true)
    (o : PutOn (shape_of root s) (path_of root s i) b (L s i) k r entry) where
  D : DetailSet root s
  D = as_detail root g s P.set P.lines

  S : Sane (area_length root) (shape_of root s)
  S = sane root g s (as_set P.set)

  O : PathOk (area_length root) (shape_of root s) (path_of root s i)
  O = path_ok root g s i (as_set P.set) D (as_way P)

  W : WayFacts root s i
  W = way_facts root g s i (as_set P.set) D (as_way P)

  T : IsSet root (path_master root s i)
  T = record { low = W.to.low; high = W.to.high }

  long : length o.area ≡ area_length root
  long = o.frame.size ∙ M.size

  -- a set that is neither this detail nor the path's master
  placed_set : (t : ℕ) → Set root t → t ≢ s → t ≢ path_master root s i → Kept (shape_of root t) b o.area
  unfolding path_of master_of
  placed_set t X d n = o.frame.sets (shape_of root t) (beside root g s t (as_set P.set) X (Ne-symm d)) (beside root g (path_master root s i) t W.to X (Ne-symm n))

  placed_detail : (t : ℕ) → IsSet root t → detail (kind root t) ≡ true → t ≢ s → Kept (shape_of root t) b o.area
  placed_detail t X h d = placed_set t (as_set X) d (λ z. true≢false (sym h ∙ ap (λ x. detail (kind root x)) z ∙ W.to_master.not_detail))

  -- the path's master, and another
  placed_master : (t : ℕ) → IsSet root t → detail (kind root t) ≡ false → Dec (t ≡ path_master root s i) → MasterInv (area_length root) (master_of root t) o.area
  unfolding path_of master_of
  placed_master t X h (yes z) = subst (λ x. MasterInv (area_length root) (master_of root x) o.area) (sym z)
      (master_same (M.masters (path_master root s i) T W.to_master.not_detail) long (frame_entries S O o.frame) o.frame.to_leads
      (λ j e. o.frame.to_records j 0 _ (Ne-symm (live_other b _ k j live e))))
  placed_master t X h (no d) = master_kept (M.masters t X h) long (placed_set t (as_set X) (λ z. true≢false (sym P.lines ∙ ap (λ x. detail (kind root x)) (sym z) ∙ h)) d)

  -- this path has the line, and the others are as they were
  placed_on : (t q : ℕ) → IsPath root t q → Dec (t ≡ s) → Dec (q ≡ i) → On (shape_of root t) (path_of root t q) o.area (lines_to root L s entry r (i + 1) t q)
  placed_on t q X (yes y) (yes z) = rw (y, z, lines_done root L s entry r (i + 1) i (omega arith)) o.on
  placed_on t q X (yes y) (no d) = rw (lines_step root L s entry r i t q (inr d))
      (apart_on S O o.frame (paths_apart root g s i t q (as_set P.set) (as_set X.set) D (as_detail root g t X.set X.lines) (as_way P) (as_way X) (inl (sym y, Ne-symm d))) (M.ons t q X))
  placed_on t q X (no d) _ = rw (lines_step root L s entry r i t q (inl d))
      (apart_on S O o.frame (paths_apart root g s i t q (as_set P.set) (as_set X.set) D (as_detail root g t X.set X.lines) (as_way P) (as_way X) (inr (Ne-symm d))) (M.ons t q X))

  placed_tie : (t q : ℕ) → IsPath root t q → Dec (t ≡ s) → Tie (shape_of root t) (path_of root t q) o.area (L t q)
  placed_tie t q X (yes y) = subst (λ x. Tie (shape_of root x) (path_of root t q) b (L t q) → Tie (shape_of root x) (path_of root t q) o.area (L t q)) (sym y) (frame_tie S O o.frame) (M.ties t q X)
  placed_tie t q X (no d) = tie_kept (placed_detail t X.set X.lines d) (M.ties t q X)

  placed_lives : (t j : ℕ) → IsSet root t → detail (kind root t) ≡ true → Dec (t ≡ s) → alive o.area (shape_of root t) j ≡ alive b (shape_of root t) j
  placed_lives t j X h (yes y) = rw y (o.frame.still.map j)
  placed_lives t j X h (no d) = kept_alive (placed_detail t X h d) j

  pub placed_middle : Middle root L s r freed a (lines_to root L s entry r (i + 1)) o.area
  placed_middle = record {
    size = long;
    masters = λ t X h. placed_master t X h (ℕ_discrete t (path_master root s i));
    frees = λ t X h d. free_kept (placed_detail t X h d) (M.frees t X h d);
    still = still_then M.still o.frame.still;
    lives = λ t j X h. placed_lives t j X h (ℕ_discrete t s) ∙ M.lives t j X h;
    ons = λ t q X. placed_on t q X (ℕ_discrete t s) (ℕ_discrete q i);
    ties = λ t q X. placed_tie t q X (ℕ_discrete t s);
  }

  -- the entry with the new line, and another of its master
  placed_own : UsesBut root (path_master root s i) k b → (j : ℕ) → automatic (kind root (path_master root s i)) ≡ true → alive o.area (shape_of root (path_master root s i)) j ≡ true → Dec (j ≡ k)
      → Used root (path_master root s i) o.area j
  unfolding path_of master_of
  placed_own H j t l (yes z) =
      let c : Shape = (path_of root s i).to.shape in
      record {
        slot = O.slot;
        in_record = O.slot_in;
        counts = λ e. omega (arith, sym o.count ∙ ap (λ h. val o.area (cell c k h 1)) O.head_at ∙ ap (λ x. val o.area (cell c x (5 + 5 * O.slot) 1)) (sym z) ∙ e);
      }
  placed_own H j t l (no d) = go (H (path_master root s i) T t j (sym (o.frame.to_map j) ∙ l))
    where
      go : ((path_master root s i ≡ path_master root s i) × (j ≡ k)) ⊎ Used root (path_master root s i) b j → Used root (path_master root s i) o.area j
      go (inl z) = absurd (d z.1)
      go (inr u) = used_moved (λ x h. ap num (o.frame.to_records j (5 + 5 * x) 1 d)) u

  pub placed_uses : UsesBut root (path_master root s i) k b → Uses root o.area
  placed_uses H m X t j l = go (ℕ_discrete m (path_master root s i))
    where
      was : m ≢ path_master root s i → ((m ≡ path_master root s i) × (j ≡ k)) ⊎ Used root m b j → Used root m b j
      was d (inl z) = absurd (d z.0)
      was d (inr u) = u

      go : Dec (m ≡ path_master root s i) → Used root m o.area j
      go (yes z) = subst (λ x. automatic (kind root x) ≡ true → alive o.area (shape_of root x) j ≡ true → Used root x o.area j) (sym z) (λ t l. placed_own H j t l (ℕ_discrete j k)) t l
      go (no d) =
          let K : Kept (shape_of root m) b o.area = placed_set m (as_set X) (auto_detail root m s t P.lines) d in
          used_moved (λ x h. kept_val K j (5 + 5 * x) 1) (was d (H m X t j (sym (kept_alive K j) ∙ l)))

module _ (root : List ℕ) (g : root_good root ≡ true) {L : Lines} {s r : ℕ} {entry : List ℕ} {freed : ℕ → List ℕ} {a b : Area} (i : ℕ) (P : IsPath root s i) (k : ℕ)
    (M : Middle root L s r freed a (lines_to root L s entry r i) b) where
  -- the placing is never refused
  pub place_step : In (shape_of root s) r → alive a (shape_of root s) r ≡ false → Where (path_of root s i) b (value (path_of root s i).search entry) k
      → PutOn (shape_of root s) (path_of root s i) b (L s i) k r entry
  place_step R dead W = put_on (sane root g s (as_set P.set)) (path_ok root g s i (as_set P.set) (as_detail root g s P.set P.lines) (as_way P)) b M.size (L s i)
      (subst (On (shape_of root s) (path_of root s i) b) (lines_todo root L s entry r i i (omega arith)) (M.ons s i P)) (M.ties s i P) k r entry R (M.still.map r ∙ dead) W
