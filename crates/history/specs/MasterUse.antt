-- What the detail steps ask of a path's master: the entry of a key, made if it is absent and the master automatic; and the dropping of an automatic entry that has no
-- lines left. Neither ever meets trouble under the master's invariant.
use Rattle.std.specs.Prelude.{◌≡◌, refl, ◌≢◌, List, true, false, ℕ, ◌+◌, ◌*◌, ◌≤◌, ◌<◌, length, get_or}
use Rattle.std.proofs.Common.{◌∙◌, arith, ne_eqb}
use Rattle.std.proofs.Math.Seq.{take-length}
use Rattle.spec.specs.declared.Refusal.TheVariants.{NoEntry, MasterFull}
use Rattle.spec.specs.declared.Master.{Master}
use Rattle.spec.specs.declared.Path.{Path}
use Rattle.spec.specs.Outcome.{accept, refuse}
use Rattle.spec.specs.Area.{Area, value}
use Rattle.spec.specs.Master.{find_key, Put}
use Rattle.spec.specs.Detail.{missing, master_entry, drop_empty, drop_automatic}
use Rattle.spec.specs.Follow.{goes, taken, other}
use Rattle.history.specs.Walk.{by_bool}
use Rattle.history.specs.Shapes.{In}
use Rattle.history.specs.Spots.{alive}
use Rattle.history.specs.Reads.{head_in, alive_in}
use Rattle.history.specs.Sets.{MasterOk}
use Rattle.history.specs.Stores.{entries, heads}
use Rattle.history.specs.MasterInv.{MasterInv}
use Rattle.history.specs.MasterFind.{Finds, present, missing as absent, finds}
use Rattle.history.specs.MasterPut.{PutResult, PutEnds, no_room, done, put_right}
use Rattle.history.specs.MasterDelete.{GoneResult, delete_right, Within, Lines, none, some, lines_right}

-- an automatic entry is its key
pub auto_value : {size : ℕ} {m : Master} → MasterOk size m → m.auto ≡ true → (key : List ℕ) → length key ≡ m.key.size → value m.key key ≡ key
auto_value M t key n = rw (M.auto_at t, ← n) (take-length key)

-- ---- the entry of a key

pub data EntryEnds (size : ℕ) (p : Path) (i : ℕ) (a : Area) (key : List ℕ) : Type 0 where
  there : (k : ℕ) → master_entry p i a key ≡ accept record { at = k; area = a } → alive a p.to.shape k ≡ true → (entries p.to a).key k ≡ key → EntryEnds size p i a key
  made : (t : Put) → master_entry p i a key ≡ accept t → p.to.auto ≡ true → PutResult size p.to a key t → (entries p.to t.area).key t.at ≡ key → EntryEnds size p i a key
  not_made : master_entry p i a key ≡ refuse (NoEntry i) → p.to.auto ≡ false → ((x : ℕ) → alive a p.to.shape x ≡ true → (entries p.to a).key x ≢ key) → EntryEnds size p i a key
  no_space : master_entry p i a key ≡ refuse (MasterFull i) → p.to.auto ≡ true → ((x : ℕ) → alive a p.to.shape x ≡ true → (entries p.to a).key x ≢ key) → ((r : ℕ) → In p.to.shape r → alive a p.to.shape r ≡ true) → EntryEnds size p i a key

pub entry_right : {size : ℕ} {p : Path} → MasterOk size p.to → {a : Area} → MasterInv size p.to a → (i : ℕ) (key : List ℕ) → length key ≡ p.to.key.size → EntryEnds size p i a key
unfolding master_entry missing
entry_right {size} {p} M {a} I i key n = go (finds M I key)
  where
    make : (t : p.to.auto ≡ true) → ((x : ℕ) → alive a p.to.shape x ≡ true → (entries p.to a).key x ≢ key) → find_key p.to a key ≡ accept 0 → PutEnds size p.to (MasterFull i) a key → EntryEnds size p i a key
    make t f e (no_room q d) = no_space (goes _ e (taken _ _ t q)) t f d
    make t f e (done u q w) = made u (goes _ e (taken _ _ t q)) t w (w.key ∙ auto_value M t key n)

    go : Finds p.to a key → EntryEnds size p i a key
    go (present k e _ l q) = there k (goes _ e (other _ _ (ne_eqb k 0 (λ z. omega (arith, (alive_in a k l).low))) refl)) l q
    go (absent e _ f) = by_bool p.to.auto
        (λ t. make t f e (put_right M I key (n ∙ M.auto_size t) (λ x l q. f x l (q ∙ auto_value M t key n)) (MasterFull i)))
        (λ t. not_made (goes _ e (other _ _ t refl)) t f)

-- ---- an automatic entry whose last line went

pub data DropEnds (size : ℕ) (m : Master) (caps : List ℕ) (a : Area) (k : ℕ) : Type 0 where
  manual : drop_automatic m caps a k ≡ accept a → m.auto ≡ false → DropEnds size m caps a k
  stays : (j : ℕ) → j < length caps → (heads m.shape (5 + 5 * j) a).cnt k ≢ 0 → drop_automatic m caps a k ≡ accept a → DropEnds size m caps a k
  drops : (b : Area) → drop_automatic m caps a k ≡ accept b → m.auto ≡ true → ((j : ℕ) → j < length caps → (heads m.shape (5 + 5 * j) a).cnt k ≡ 0) → GoneResult size m a k b → DropEnds size m caps a k

pub drop_right : {size : ℕ} {m : Master} → MasterOk size m → {a : Area} → MasterInv size m a → (caps : List ℕ) → length caps ≤ m.leads → (k : ℕ) → alive a m.shape k ≡ true
    → ((j : ℕ) → j < length caps → Within (get_or caps j 0) (head_in a m.shape k (5 + 5 * j))) → DropEnds size m caps a k
unfolding drop_automatic drop_empty
drop_right {size} {m} M {a} I caps h k l ok = by_bool m.auto (λ t. go t (lines_right M caps h a k (alive_in a k l) ok)) (λ t. manual (other _ _ t refl) t)
  where
    go : m.auto ≡ true → Lines m caps a k → DropEnds size m caps a k
    go t (none e z) = let D = delete_right M I k l in drops D.area (taken _ _ t (goes _ e D.says)) t z D.does
    go t (some j b n e) = stays j b n (taken _ _ t (goes _ e refl))
