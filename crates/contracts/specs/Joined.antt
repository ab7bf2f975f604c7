-- Demand 3 of what the proved calls answer: a base made by an accepted `make`, then any calls one after another, each with an outcome
-- that satisfies its contract. What the calls answered, and the base that they left, are the definitions'; so demand 3 holds of it, and
-- no call answered 18.
-- Assumes nothing but an accepted make: the root is then one that the rules accept.
use Rattle.std.specs.Prelude.{ℕ, ◌≢◌, Bool, leb, eqb, length}
use Rattle.std.proofs.Math.Path.{◌≡◌, refl, sym, ap, subst}
use Rattle.std.proofs.Common.{◌∙◌}
use Rattle.std.proofs.Math.Bool.{true, false}
use mathlib.Core.List.{List, [], ◌∷◌, ◌++◌}
use native.Mathlib.Omega.{arith}
use borrow.Author.Tests.{eqb-true}
use Rattle.std.proofs.Math.ListN.{replicate}
use Rattle.spec.specs.declared.Refusal.TheVariants.{BadRoot, BadLength, NotByCall, NoMode, NotSearched, WrongLength, NoPath, ShortBuffer, NoRecord, KeyChanged}
use Rattle.spec.specs.declared.Cursor.{Cursor}
use Rattle.spec.specs.Words.{word, lay}
use Rattle.spec.specs.Outcome.{Outcome, accept, refuse, refused_words, require, ◌>>=◌, open_outcome}
use Rattle.spec.specs.Root.{root_good, max_sets, search_path, item_length}
use Rattle.spec.specs.Layout.{area_length, view_shape}
use Rattle.spec.specs.Area.{Area}
use Rattle.spec.specs.Master.{find_key}
use Rattle.spec.specs.Detail.{head_at}
use Rattle.spec.specs.Cursor.{fresh, nonzero, reading, mode_good, value_good, path_chosen, record_for, readable, current_record}
use Rattle.spec.specs.Calls.{Made, Done, Answer, answer, known, made, make, named_set, named_cursor, the_detail, entry_size, open_to_change, find_chain, find_on, find_steps, find, get_on, get_steps, get, put_in, put_on, put_steps, put, keeps_all, update_on, update_steps, update, delete_in, delete_on, delete_steps, delete}
use Rattle.history.specs.Base.{Base, Call, a_find, a_get, a_put, a_update, a_delete, answered, after, new}
use Rattle.history.specs.Demand.{run_from, run, answers}
use Rattle.history.specs.DemandAll.{Demand}
use Rattle.history.specs.Theorem.{any_history}
use Rattle.contracts.specs.OneOutcome.{Makes, Found, Finds, Got, Gets, Changed, Puts, Updates, Deletes}

-- what the contract of a call says of its outcome: the fields that the call writes by its `ensures`; an area that it is lent to be
-- read stays
pub record Works (root : List ℕ) (b : Base) (c : Call) (o : Answer) : Type 0 where
  pub status : o.status ≡ (answered root b c).status
  pub cursors : o.cursors ≡ (answered root b c).cursors
  pub passed : o.passed ≡ (answered root b c).passed
  pub area : o.area ≡ (answered root b c).area
  pub buffer : o.buffer ≡ (answered root b c).buffer

pub works_is : (root : List ℕ) (b : Base) (c : Call) (o : Answer) → Works root b c o → o ≡ answered root b c
works_is root b c o w i =
    record {
      status = w.status i;
      cursors = w.cursors i;
      passed = w.passed i;
      area = w.area i;
      buffer = w.buffer i;
    }

-- ---- the contracts give it: a find and a get leave the area, only a get writes a buffer

abbrev All : {A : Type 0} → (A → Type 0) → Outcome A → Type 0
All P (accept x) = P x
All P (refuse why) = Unit {0}

all_after : {A B : Type 0} (P : B → Type 0) (x : Outcome A) (f : A → Outcome B) → ((y : A) → All P (f y)) → All P (x >>= f)
all_after P (accept y) f h = h y
all_after P (refuse why) f h = tt

all_map : {A : Type 0} (P Q : A → Type 0) (x : Outcome A) → ((y : A) → P y → Q y) → All P x → All Q x
all_map P Q (accept y) f h = f y h
all_map P Q (refuse why) f h = tt

abbrev Wordless : Done → Type 0
Wordless d = d.words ≡ []

abbrev Reading : Area → Done → Type 0
Reading a d = d.area ≡ a

module _ (a : Area) (cs : List Cursor) (s : ℕ) (buffer : List ℕ) (x : Outcome Done) where
  area_stays : All (Reading a) x → (answer a cs s buffer x).area ≡ a
  unfolding answer
  area_stays = elim x as (λ k. All (Reading a) k → (answer a cs s buffer k).area ≡ a) [ accept d ↦ λ h. h | refuse why ↦ λ h. refl ]

  no_buffer : All Wordless x → (answer a cs s [] x).buffer ≡ []
  unfolding answer
  no_buffer = elim x as (λ k. All Wordless k → (answer a cs s [] k).buffer ≡ []) [ accept d ↦ λ h. ap (lay [] 0) h | refuse why ↦ λ h. refl ]

module _ (root : List ℕ) (a : Area) (cs : List Cursor) (s : ℕ) where
  find_plain : (item : ℕ) (key : List ℕ) → All (λ d. Reading a d × Wordless d) (find_steps root a cs s item key)
  unfolding find_steps find_on find_chain
  find_plain item key =
      all_after _ (named_set root a s) _ (λ v. all_after _ (the_detail v) _ (λ d. all_after _ (named_cursor v cs s) _ (λ _.
      all_after _ (nonzero (search_path root s item) NotSearched) _ (λ p. all_after _ (require (eqb (length key) (item_length root item)) WrongLength) _ (λ _.
      all_after _ (find_key (d.path p).to a key) _ (λ r. all_after _ (nonzero r NoRecord) _ (λ k.
      all_after _ (head_at d.shape (d.path p) a k) _ (λ h. (refl, refl)))))))))

  get_reads : (mode r : ℕ) (key : List ℕ) (room : ℕ) → All (Reading a) (get_steps root a cs s mode r key room)
  unfolding get_steps get_on
  get_reads mode r key room =
      all_after _ (named_set root a s) _ (λ v. all_after _ (named_cursor v cs s) _ (λ c.
      all_after _ (require (mode_good (reading v mode)) NoMode) _ (λ _. all_after _ (require (value_good (reading v mode) key) WrongLength) _ (λ _.
      all_after _ (require (path_chosen (reading v mode) c) NoPath) _ (λ _. all_after _ (require (leb (entry_size v) room) ShortBuffer) _ (λ _.
      all_after _ (record_for (reading v mode) (view_shape v) a c r key) _ (λ k. all_after _ (readable v a c.path k) _ (λ _. refl))))))))

  put_wordless : (entry : List ℕ) → All Wordless (put_steps root a cs s entry)
  unfolding put_steps put_on
  put_wordless entry =
      all_after _ (named_set root a s) _ (λ v. all_after _ (named_cursor v cs s) _ (λ c.
      all_after _ (require (open_to_change v) NotByCall) _ (λ _. all_after _ (require (eqb (length entry) (entry_size v)) WrongLength) _ (λ _.
      all_after _ (put_in v a entry) _ (λ l. refl)))))

  update_wordless : (entry : List ℕ) → All Wordless (update_steps root a cs s entry)
  unfolding update_steps update_on
  update_wordless entry =
      all_after _ (named_set root a s) _ (λ v. all_after _ (named_cursor v cs s) _ (λ c.
      all_after _ (require (open_to_change v) NotByCall) _ (λ _. all_after _ (require (eqb (length entry) (entry_size v)) WrongLength) _ (λ _.
      all_after _ (current_record (view_shape v) a c) _ (λ r. all_after _ (require (keeps_all v a r entry) KeyChanged) _ (λ _. refl))))))

  delete_wordless : All Wordless (delete_steps root a cs s)
  unfolding delete_steps delete_on
  delete_wordless =
      all_after _ (named_set root a s) _ (λ v. all_after _ (named_cursor v cs s) _ (λ c.
      all_after _ (require (open_to_change v) NotByCall) _ (λ _. all_after _ (current_record (view_shape v) a c) _ (λ r.
      all_after _ (delete_in v a r) _ (λ b. refl)))))

-- so an outcome that the contract of a call allows, with what the call cannot write, is one of `Works`
module _ (root : List ℕ) (b : Base) (s : ℕ) where
  pub finds_work :
      (item : ℕ) (value : List ℕ) (o : Found) → Finds root b.area b.cursors s item value o →
      Works root b (a_find s item value) (record { status = o.status; cursors = o.cursors; passed = o.passed; area = b.area; buffer = [] })
  unfolding answered find
  finds_work item value o w =
      record {
        status = w.status;
        cursors = w.cursors;
        passed = w.passed;
        area = sym (area_stays b.area b.cursors s [] _ (all_map _ (Reading b.area) (find_steps root b.area b.cursors s item value) (λ d p. p.0) (find_plain root b.area b.cursors s item value)));
        buffer = sym (no_buffer b.area b.cursors s [] _ (all_map _ Wordless (find_steps root b.area b.cursors s item value) (λ d p. p.1) (find_plain root b.area b.cursors s item value)));
      }

  pub gets_work :
      (mode number : ℕ) (value buffer : List ℕ) (o : Got) → Gets root b.area b.cursors s mode number value buffer o →
      Works root b (a_get s mode number value buffer) (record { status = o.status; cursors = o.cursors; passed = o.passed; area = b.area; buffer = o.buffer })
  unfolding answered get
  gets_work mode number value buffer o w =
      record {
        status = w.status;
        cursors = w.cursors;
        passed = w.passed;
        area = sym (area_stays b.area b.cursors s buffer _ (get_reads root b.area b.cursors s mode number value (length buffer)));
        buffer = w.buffer;
      }

  abbrev changed : Changed → Answer
  changed o = record { status = o.status; cursors = o.cursors; passed = o.passed; area = o.area; buffer = [] }

  pub puts_work : (entry : List ℕ) (o : Changed) → Puts root b.area b.cursors s entry o → Works root b (a_put s entry) (changed o)
  unfolding answered put Puts
  puts_work entry o w =
      record {
        status = w.status;
        cursors = w.cursors;
        passed = w.passed;
        area = w.area;
        buffer = sym (no_buffer b.area b.cursors s [] _ (put_wordless root b.area b.cursors s entry));
      }

  pub updates_work : (entry : List ℕ) (o : Changed) → Updates root b.area b.cursors s entry o → Works root b (a_update s entry) (changed o)
  unfolding answered update Updates
  updates_work entry o w =
      record {
        status = w.status;
        cursors = w.cursors;
        passed = w.passed;
        area = w.area;
        buffer = sym (no_buffer b.area b.cursors s [] _ (update_wordless root b.area b.cursors s entry));
      }

  pub deletes_work : (o : Changed) → Deletes root b.area b.cursors s o → Works root b (a_delete s) (changed o)
  unfolding answered delete Deletes
  deletes_work o w =
      record {
        status = w.status;
        cursors = w.cursors;
        passed = w.passed;
        area = w.area;
        buffer = sym (no_buffer b.area b.cursors s [] _ (delete_wordless root b.area b.cursors s));
      }

abbrev pub left : Answer → Base
left o = record { area = o.area; cursors = o.cursors }

-- the calls one after another, each on what the one before it left
unfoldable pub Ran : List ℕ → Base → List Call → List Answer → Base → Type 0
Ran root b [] [] e = e ≡ b
Ran root b [] (o ∷ os) e = ⊥
Ran root b (c ∷ cs) [] e = ⊥
Ran root b (c ∷ cs) (o ∷ os) e = Works root b c o × Ran root (left o) cs os e

pub record AsDefined (root : List ℕ) (b : Base) (cs : List Call) (os : List Answer) (e : Base) : Type 0 where
  pub told : os ≡ answers root b cs
  pub left : e ≡ run_from root b cs

pub ran_as_defined : (root : List ℕ) (cs : List Call) (os : List Answer) (b e : Base) → Ran root b cs os e → AsDefined root b cs os e
unfolding Ran answers run_from after
ran_as_defined root [] [] b e h = record { told = refl; left = h }
ran_as_defined root [] (o ∷ os) b e h = elim h [ ]
ran_as_defined root (c ∷ cs) [] b e h = elim h [ ]
ran_as_defined root (c ∷ cs) (o ∷ os) b e (w, h) =
    let q : o ≡ answered root b c = works_is root b c o w in
    let r : AsDefined root (after root b c) cs os e =
    ran_as_defined root cs os (after root b c) e (subst (λ (x : Answer). Ran root (left x) cs os e) q h) in
    record { told = λ i. q i ∷ r.told i; left = r.left }

-- no answer's word 1 is 18
unfoldable pub None18 : List Answer → Type 0
None18 [] = Unit {0}
None18 (o ∷ os) = (word o.status 0 ≢ 18) × None18 os

module _ (root : List ℕ) (never : (cs : List Call) (c : Call) → word (answered root (run root cs) c).status 0 ≢ 18) where
  one_more : (ds : List Call) (c : Call) (b : Base) → after root (run_from root b ds) c ≡ run_from root b (ds ++ (c ∷ []))
  unfolding run_from
  one_more [] c b = refl
  one_more (d ∷ ds) c b = one_more ds c (after root b d)

  none_18 : (cs ds : List Call) → None18 (answers root (run root ds) cs)
  unfolding None18 answers run
  none_18 [] ds = tt
  none_18 (c ∷ cs) ds =
      (never ds c, subst (λ (b : Base). None18 (answers root b cs)) (sym (one_more ds c (new root))) (none_18 cs (ds ++ (c ∷ []))))

-- ---- an accepted make
module _ (a : Area) where
  abbrev asked : Bool → Bool → Outcome (Unit {0})
  asked g l = require g BadRoot >>= (λ _. require l BadLength)

  not_root : word (refused_words BadRoot) 0 ≡ 65445
  unfolding open_outcome
  not_root = refl

  not_length : word (refused_words BadLength) 0 ≡ 65444
  unfolding open_outcome
  not_length = refl

  good_make : (g l : Bool) → word (made a (asked g l)).status 0 ≡ 0 → (g ≡ true) × (l ≡ true)
  unfolding made
  good_make true true q = (refl, refl)
  good_make true false q = let h : ◌≡◌ {A = ℕ} 65444 0 = sym not_length ∙ q in (refl, elim (never_so h) [ ])
    where
      never_so : ◌≡◌ {A = ℕ} 65444 0 → ⊥
      never_so h = omega arith
  good_make false l q = let h : ◌≡◌ {A = ℕ} 65445 0 = sym not_root ∙ q in (elim (never_so h) [ ], elim (never_so h) [ ])
    where
      never_so : ◌≡◌ {A = ℕ} 65445 0 → ⊥
      never_so h = omega arith

pub record Joined (root : List ℕ) (cs : List Call) (os : List Answer) (e : Base) : Type 0 where
  -- the make accepted the root by the rules
  pub good : root_good root ≡ true
  -- what the calls answered and the base that they left are the definitions'
  pub told : os ≡ answers root (new root) cs
  pub left : e ≡ run root cs
  -- of which demand 3 holds
  pub demand : Demand root
  -- and 18 never came
  pub never : None18 os

-- an accepted make makes a new base, under a root that the rules accept
module _ (root : List ℕ) (a : Area) (m : Made) (w : Makes root a m) (q : word m.status 0 ≡ 0) where
  accepted : word (make root a).status 0 ≡ 0
  accepted = subst (λ (x : List ℕ). word x 0 ≡ 0) w.status q

  both : (root_good root ≡ true) × (eqb (length a) (area_length root) ≡ true)
  unfolding make known
  both = good_make a (root_good root) (eqb (length a) (area_length root)) accepted

  zeros : (make root a).area ≡ replicate (area_length root) 0
  unfolding make known made
  zeros = rw (both.0, both.1, eqb-true (length a) (area_length root) both.1) refl

  -- demand 3 of what the calls answer: `e` is the base that they leave, after a make and fresh cursors
  pub joined :
      (cs : List Call) (os : List Answer) (e : Base) → Ran root (record { area = m.area; cursors = replicate max_sets fresh }) cs os e →
      Joined root cs os e
  unfolding new run run_from
  joined cs os e h =
      let n : record { area = m.area; cursors = replicate max_sets fresh } ≡ new root =
      λ i. record { area = (w.area ∙ zeros) i; cursors = replicate max_sets fresh } in
      let r : AsDefined root (new root) cs os e = ran_as_defined root cs os (new root) e (subst (λ (b : Base). Ran root b cs os e) n h) in
      let d : Demand root = any_history root both.0 in
      record {
        good = both.0;
        told = r.told;
        left = r.left;
        demand = d;
        never = subst None18 (sym r.told) (none_18 root d.never cs []);
      }
