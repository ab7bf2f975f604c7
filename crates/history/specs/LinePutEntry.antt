-- The first half of a put's turn on a path: the master entry of the new line's key is found or made, and the middle of the put stays right. A new entry is the one
-- automatic entry that may have no line yet.
use Rattle.std.specs.Prelude.{◌≡◌, refl, ◌≢◌, ◌⊎◌, true, false, length}
use Rattle.std.proofs.Common.{sym, ◌∙◌, subst, true≢false, arith, length-drop, length-take-le}
use Rattle.std.proofs.Math.Path.{ap}
use Rattle.std.proofs.Math.Logic.{Ne-symm, inl, inr}
use mathlib.Core.List.{List}
use Prim.Native.Nat.{ℕ, ◌+◌, ◌*◌, ◌≤◌}
use Rattle.std.proofs.Math.Decide.{ℕ_discrete}
use Rattle.spec.specs.declared.Shape.{Shape}
use Rattle.spec.specs.declared.Field.{Field}
use Rattle.spec.specs.declared.Master.{Master}
use Rattle.spec.specs.declared.Path.{Path}
use Rattle.spec.specs.declared.Refusal.{Refusal}
use Rattle.spec.specs.declared.Refusal.TheVariants.{NoEntry, MasterFull, Broken}
use Rattle.spec.specs.Outcome.{Outcome, accept, refuse, number, twos}
use Rattle.spec.specs.Root.{kind, path_master, automatic, detail, root_good}
use Rattle.spec.specs.Layout.{area_length, shape_of, master_of, path_of}
use Rattle.spec.specs.Area.{Area, value}
use Rattle.spec.specs.Master.{Put}
use Rattle.spec.specs.Detail.{master_entry}
use Rattle.history.specs.Layout.{num}
use Rattle.history.specs.Shapes.{beside_sym}
use Rattle.history.specs.Spots.{alive}
use Rattle.history.specs.Apart.{Kept}
use Rattle.history.specs.Good.{Set, WayFacts, way_facts}
use Rattle.history.specs.Sets.{MasterOk, PathOk, beside, master_ok, path_ok}
use Rattle.history.specs.Stores.{kept_val, kept_alive}
use Rattle.history.specs.MasterInv.{MasterInv, master_kept}
use Rattle.history.specs.MasterFind.{found_live}
use Rattle.history.specs.MasterShift.{load_part, from}
use Rattle.history.specs.MasterPut.{PutResult}
use Rattle.history.specs.MasterUse.{EntryEnds, there, made, not_made, no_space, entry_right}
use Rattle.history.specs.PathLines.{PLine, On, Where}
use Rattle.history.specs.PathFrame.{still_then, still_kept, kept_on, on_carried, tie_kept}
use Rattle.history.specs.FreeInv.{free_kept}
use Rattle.history.specs.Base.{Lines, IsSet, IsPath, Used}
use Rattle.history.specs.LinePutState.{as_set, as_way, as_detail, as_master, Middle, Uses, UsesBut, used_moved}

-- a path to the master that got an entry
on_made : {size : ℕ} {m : Master} {b : Area} {entry : List ℕ} {t : Put} {d : Shape} {p : Path} {xs : List PLine} → PathOk size d p → p.to ≡ m → MasterInv size m b → PutResult size m b entry t
    → On d p b xs → On d p t.area xs
on_made {size} {m} {b} {entry} {t} {d} {p} {xs} P e I U O = subst (λ m. MasterInv size m b → PutResult size m b entry t → On d p t.area xs) e
    (λ I U. on_carried (U.others d (beside_sym P.beside)) I.chains U.whole.chains (U.carries p.head (omega (arith, P.head_at)) (omega (arith, P.head_at, P.slot_in, P.to.front))) O) I U

module _ (root : List ℕ) (g : root_good root ≡ true) {L : Lines} {s r : ℕ} {freed : ℕ → List ℕ} {a : Area} {now : Lines} {b : Area} (M : Middle root L s r freed a now b)
    (n : ℕ) (N : IsSet root n) (e : detail (kind root n) ≡ false) {entry : List ℕ} {u : Put} (U : PutResult (area_length root) (master_of root n) b entry u) where
  -- every other set
  made_set : (t : ℕ) → Set root t → t ≢ n → Kept (shape_of root t) b u.area
  unfolding master_of
  made_set t T d = U.others (shape_of root t) (beside root g n t (as_set N) T (Ne-symm d))

  made_detail : (t : ℕ) → IsSet root t → detail (kind root t) ≡ true → Kept (shape_of root t) b u.area
  made_detail t T h = made_set t (as_set T) (λ z. true≢false (sym h ∙ ap (λ x. detail (kind root x)) z ∙ e))

  made_master : (t : ℕ) → IsSet root t → detail (kind root t) ≡ false → Dec (t ≡ n) → MasterInv (area_length root) (master_of root t) u.area
  made_master t T h (yes z) = subst (λ x. MasterInv (area_length root) (master_of root x) u.area) (sym z) U.whole
  made_master t T h (no d) = master_kept (M.masters t T h) U.whole.long (unfold master_of in made_set t (as_set T) d)

  made_on : (t q : ℕ) → IsPath root t q → Dec (path_master root t q ≡ n) → On (shape_of root t) (path_of root t q) u.area (now t q)
  unfolding path_of master_of
  made_on t q P (yes z) = on_made (path_ok root g t q (as_set P.set) (as_detail root g t P.set P.lines) (as_way P)) (ap (master_of root) z) (M.masters n N e) U (M.ons t q P)
  made_on t q P (no d) = kept_on (made_detail t P.set P.lines)
      (made_set (path_master root t q) (way_facts root g t q (as_set P.set) (as_detail root g t P.set P.lines) (as_way P)).to d) (M.ons t q P)

  pub made_middle : IsSet root s → detail (kind root s) ≡ true → Middle root L s r freed a now u.area
  made_middle S D = record {
    size = U.whole.long;
    masters = λ t T h. made_master t T h (ℕ_discrete t n);
    frees = λ t T h d. free_kept (made_detail t T h) (M.frees t T h d);
    still = still_then M.still (still_kept (made_detail s S D));
    lives = λ t j T h. kept_alive (made_detail t T h) j ∙ M.lives t j T h;
    ons = λ t q P. made_on t q P (ℕ_discrete (path_master root t q) n);
    ties = λ t q P. tie_kept (made_detail t P.set P.lines) (M.ties t q P);
  }

  -- an entry of this master is the new one, or was there
  made_own : (k : ℕ) → automatic (kind root n) ≡ true → alive u.area (shape_of root n) k ≡ true → Uses root b → Dec (k ≡ u.at) → (k ≡ u.at) ⊎ Used root n u.area k
  unfolding master_of
  made_own k t l H (yes z) = inl z
  made_own k t l H (no d) =
      let w = from U.shift k l d in
      let O : MasterOk (area_length root) (master_of root n) = master_ok root g n (as_set N) (as_master root g n N e) in
      inr (used_moved (λ j h. ap num (load_part (shape_of root n) b u.area w.0 k (5 + 5 * j) 1 w.2 (omega arith) (omega (arith, O.front, O.sane.filled)))) (H n N t w.0 w.1))

  pub made_uses : Uses root b → UsesBut root n u.at u.area
  made_uses H m T t k l = go (ℕ_discrete m n)
    where
      own : automatic (kind root n) ≡ true → alive u.area (shape_of root n) k ≡ true → ((n ≡ n) × (k ≡ u.at)) ⊎ Used root n u.area k
      own t l = new (made_own k t l H (ℕ_discrete k u.at))
        where
          new : (k ≡ u.at) ⊎ Used root n u.area k → ((n ≡ n) × (k ≡ u.at)) ⊎ Used root n u.area k
          new (inl z) = inl (refl, z)
          new (inr w) = inr w

      go : Dec (m ≡ n) → ((m ≡ n) × (k ≡ u.at)) ⊎ Used root m u.area k
      go (yes z) = subst (λ x. automatic (kind root x) ≡ true → alive u.area (shape_of root x) k ≡ true → ((x ≡ n) × (k ≡ u.at)) ⊎ Used root x u.area k) (sym z) own t l
      go (no d) =
          let K : Kept (shape_of root m) b u.area = made_set m (as_set T) d in
          inr (used_moved (λ j h. kept_val K k (5 + 5 * j) 1) (H m T t k (sym (kept_alive K k) ∙ l)))

-- ---- the step

-- what a step comes to: refused, and not for broken words, or accepted with what is known of the answer
pub data Ended {A : Type 0} (Ok : A → Type 0) (o : Outcome A) : Type 0 where
  stopped : (why : Refusal) → why ≢ Broken → o ≡ refuse why → Ended Ok o
  passed : (x : A) → o ≡ accept x → Ok x → Ended Ok o

pub no_entry : (i : ℕ) → NoEntry i ≢ Broken
unfolding number twos
no_entry i e = omega (arith, ap (λ w. twos (number w)) e)

pub master_full : (i : ℕ) → MasterFull i ≢ Broken
unfolding number twos
master_full i e = omega (arith, ap (λ w. twos (number w)) e)

value_length : (f : Field) (entry : List ℕ) → f.at + f.size ≤ length entry → length (value f entry) ≡ f.size
value_length f entry h = length-take-le f.size _ (omega (arith, length-drop f.at entry))

-- the entry stands in record u of the path's master
pub record Ready (root : List ℕ) (L : Lines) (s r : ℕ) (entry : List ℕ) (freed : ℕ → List ℕ) (a : Area) (now : Lines) (i : ℕ) (u : Put) : Type 0 where
  pub middle : Middle root L s r freed a now u.area
  pub uses : UsesBut root (path_master root s i) u.at u.area
  pub stands : Where (path_of root s i) u.area (value (path_of root s i).search entry) u.at

module _ (root : List ℕ) (g : root_good root ≡ true) {L : Lines} {s r : ℕ} (entry : List ℕ) (n : length entry ≡ (shape_of root s).entry) {freed : ℕ → List ℕ} {a : Area} {now : Lines} {b : Area}
    (M : Middle root L s r freed a now b) (H : Uses root b) (i : ℕ) (P : IsPath root s i) where
  pub entry_step : Ended (Ready root L s r entry freed a now i) (master_entry (path_of root s i) i b (value (path_of root s i).search entry))
  unfolding path_of master_of
  entry_step = go (entry_right O.to I i key (value_length (path_of root s i).search entry (omega (arith, n, O.search.fits)) ∙ O.as_long))
    where
      key : List ℕ
      key = value (path_of root s i).search entry

      O : PathOk (area_length root) (shape_of root s) (path_of root s i)
      O = path_ok root g s i (as_set P.set) (as_detail root g s P.set P.lines) (as_way P)

      W : WayFacts root s i
      W = way_facts root g s i (as_set P.set) (as_detail root g s P.set P.lines) (as_way P)

      T : IsSet root (path_master root s i)
      T = record { low = W.to.low; high = W.to.high }

      I : MasterInv (area_length root) (path_of root s i).to b
      I = M.masters (path_master root s i) T W.to_master.not_detail

      go : EntryEnds (area_length root) (path_of root s i) i b key → Ended (Ready root L s r entry freed a now i) (master_entry (path_of root s i) i b key)
      go (there k q l z) = passed record { at = k; area = b } q (record {
        middle = M;
        uses = λ m S t k l. inr (H m S t k l);
        stands = record { at_record = found_live I k key l z; live = l };
      })
      go (made u q t w z) = passed u q (record {
        middle = made_middle root g M (path_master root s i) T W.to_master.not_detail w P.set P.lines;
        uses = made_uses root g M (path_master root s i) T W.to_master.not_detail w H;
        stands = record { at_record = found_live w.whole u.at key w.live z; live = w.live };
      })
      go (not_made q t f) = stopped (NoEntry i) (no_entry i) q
      go (no_space q t f d) = stopped (MasterFull i) (master_full i) q
