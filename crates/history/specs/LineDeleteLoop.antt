-- A line's delete goes over its paths, 1 upward: on each the entry of its key is there, the line is taken off and the entry dropped if it is to be. No turn is refused.
use Rattle.std.specs.Prelude.{◌≡◌, refl, List, true}
use Rattle.std.proofs.Math.Path.{ap, subst}
use Rattle.std.proofs.Common.{◌∙◌, lt-ltb}
use Prim.Native.Nat.{ℕ, zero, suc, ◌+◌, ◌≤◌}
use native.Mathlib.Omega.{arith}
use Rattle.spec.specs.declared.Refusal.TheVariants.{Broken}
use Rattle.spec.specs.Root.{kind, path_count, path_master, detail, root_good}
use Rattle.spec.specs.Layout.{area_length, shape_of, path_of, heads_of, detail_of}
use Rattle.spec.specs.Outcome.{accept}
use Rattle.spec.specs.Area.{Area}
use Rattle.spec.specs.Master.{find_key}
use Rattle.spec.specs.Detail.{delete_path, delete_paths}
use Rattle.spec.specs.Follow.{goes, passes}
use Rattle.history.specs.MasterKeys.{rec_of}
use Rattle.history.specs.Shapes.{Sane}
use Rattle.history.specs.Spots.{alive}
use Rattle.history.specs.Reads.{alive_in}
use Rattle.history.specs.Sets.{PathOk, sane, path_ok}
use Rattle.history.specs.MasterInv.{MasterInv}
use Rattle.history.specs.MasterFind.{find_right}
use Rattle.history.specs.PathLines.{On, line_at, key_read, Where, where_in}
use Rattle.history.specs.PathReads.{line_present, where_present}
use Rattle.history.specs.PathDelete.{OffPath, off_path, unhang_is}
use Rattle.history.specs.Base.{Lines, IsSet, IsPath}
use Rattle.history.specs.LineDeleteMiddle.{as_set, as_way, details, leads_to, leads_master, half_here, Middle, AllUsed}
use Rattle.history.specs.LineDeleteUnlink.{unlinked_middle, unlinked_used}
use Rattle.history.specs.LineDeleteDrop.{dropped}

-- ---- one path

pub record Turn (root : List ℕ) (L : Lines) (freed : ℕ → List ℕ) (s r : ℕ) (a : Area) (i : ℕ) (b : Area) : Type 0 where
  pub area : Area
  pub says : delete_path (shape_of root s) (path_of root s i) (heads_of root (path_master root s i)) b r ≡ accept area
  pub middle : Middle root L freed s r a (i + 1) area
  pub used : AllUsed root area

module _ {root : List ℕ} (g : root_good root ≡ true) {L : Lines} {freed : ℕ → List ℕ} {s r : ℕ} {a : Area} (live : alive a (shape_of root s) r ≡ true) where
  module _ {i : ℕ} {b : Area} (M : Middle root L freed s r a i b) (U : AllUsed root b) (H : IsPath root s i) where
    S : Sane (area_length root) (shape_of root s)
    S = sane root g s (as_set H.set)

    P : PathOk (area_length root) (shape_of root s) (path_of root s i)
    P = path_ok root g s i (as_set H.set) (details root g H) (as_way H)

    still_live : alive b (shape_of root s) r ≡ true
    still_live = M.maps s r H.set H.lines ∙ live

    on_chain : On (shape_of root s) (path_of root s i) b (L s i)
    on_chain = subst (On _ _ b) (half_here L s r i) (M.ons s i H)

    master : MasterInv (area_length root) (path_of root s i).to b
    unfolding path_of
    master = M.masters (path_master root s i) (leads_to root g H) (leads_master root g H)

    -- with its key's entry in record k
    from_entry : (k : ℕ) → Where (path_of root s i) b (line_at (shape_of root s) (path_of root s i) b r).key k → Turn root L freed s r a i b
    unfolding delete_path path_of
    from_entry k W =
        let d = shape_of root s in
        let p = path_of root s i in
        let o : OffPath d p b (L s i) k r = off_path S P b M.size (L s i) on_chain (M.ties s i H) k r still_live W in
        let X = dropped g (unlinked_middle g M H still_live W.live o) (leads_to root g H) (leads_master root g H) (o.frame.to_map k ∙ W.live) (unlinked_used g M H still_live W.live o U) in
        let found : find_key p.to b (line_at d p b r).key ≡ accept k = find_right P.to master _ ∙ ap (λ f. accept (rec_of f)) W.at_record in
        record {
          area = X.area;
          says = goes _ (ap (find_key p.to b) (key_read S P b M.size (alive_in b r still_live)) ∙ found)
              (goes _ (passes Broken (lt-ltb 0 k (omega (arith, (where_in W).low)))) (unhang_is (heads_of root (path_master root s i)) o ∙ X.says));
          middle = X.middle;
          used = X.used;
        }

    pub turn : Turn root L freed s r a i b
    turn = let w = where_present master.chains _ (line_present S P b (L s i) on_chain (M.ties s i H) r still_live) in from_entry w.0 w.1

-- ---- all paths

-- n paths from path i on
pub record Unhung (root : List ℕ) (L : Lines) (freed : ℕ → List ℕ) (s r : ℕ) (a : Area) (n i : ℕ) (b : Area) : Type 0 where
  pub area : Area
  pub says : delete_paths (detail_of root s) r n i b ≡ accept area
  pub middle : Middle root L freed s r a (i + n) area
  pub used : AllUsed root area

module _ {root : List ℕ} (g : root_good root ≡ true) {L : Lines} {freed : ℕ → List ℕ} {s r : ℕ} {a : Area} (live : alive a (shape_of root s) r ≡ true) (S : IsSet root s) (D : detail (kind root s) ≡ true) where
  pub unhung : (n i : ℕ) {b : Area} → 1 ≤ i → i + n ≤ path_count root s + 1 → Middle root L freed s r a i b → AllUsed root b → Unhung root L freed s r a n i b
  unfolding delete_paths detail_of
  unhung zero i {b} low high M U = record { area = b; says = refl; middle = subst (λ j. Middle root L freed s r a j b) (omega arith) M; used = U }
  unhung (suc n) i low high M U =
      let t = turn g live M U record { set = S; lines = D; low = low; high = omega arith } in
      let w = unhung n (i + 1) (omega arith) (omega arith) t.middle t.used in
      record { area = w.area; says = goes _ t.says w.says; middle = subst (λ j. Middle root L freed s r a j w.area) (omega arith) w.middle; used = w.used }
