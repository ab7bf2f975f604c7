-- The put of a line, whole: it is refused, and not for broken words, or the line is on every path of its set, what it passed on each is told, and the base is right.
use Rattle.std.specs.Prelude.{◌≡◌, ◌≢◌, List, true, false, length}
use Rattle.std.proofs.Math.Path.{refl}
use Rattle.std.proofs.Common.{sym, ap, ◌∙◌, subst, length-set, get_or-set_same}
use Prim.Native.Nat.{ℕ, zero, suc, ◌+◌, ◌-◌, ◌≤◌, ◌<◌}
use native.Mathlib.Omega.{arith}
use Rattle.std.proofs.Math.Decide.{ℕ_discrete}
use Rattle.std.proofs.Math.ListN.{set}
use Rattle.std.proofs.lemmas.List.{length-replicate}
use Rattle.std.proofs.Math.Seq.{get_or-set_other}
use Rattle.spec.specs.declared.Taken.{Taken}
use Rattle.spec.specs.declared.Refusal.TheVariants.{SetFull, Broken}
use Rattle.spec.specs.Outcome.{Outcome, accept, number, twos}
use Rattle.spec.specs.Words.{word}
use Rattle.spec.specs.Root.{kind, path_count, detail, max_paths, root_good}
use Rattle.spec.specs.Layout.{shape_of, path_of, detail_of}
use Rattle.spec.specs.Area.{Area, value}
use Rattle.spec.specs.Detail.{Line, Lined, Placed, none_passed, master_entry, put_path, put_paths, put_taken, put_line, settle, take_record}
use Rattle.spec.specs.Follow.{goes, stops}
use Rattle.history.specs.Shapes.{In}
use Rattle.history.specs.Spots.{alive}
use Rattle.history.specs.History.{reported}
use Rattle.history.specs.Sets.{sane}
use Rattle.history.specs.PathLines.{line_record, same_key, above, line_of}
use Rattle.history.specs.PathFrame.{still_self}
use Rattle.history.specs.FreeInv.{Take, full, took, Took, take_says, Settled, settled}
use Rattle.history.specs.Base.{Lines, IsSet, IsPath, AreaInv, PutDone, PutEnds, refused, done}
use Rattle.history.specs.LinePutState.{as_set, as_detail, lines_to, lines_none, Middle, Uses}
use Rattle.history.specs.LinePutEntry.{Ended, stopped, passed, Ready, entry_step}
use Rattle.history.specs.LinePutPlace.{placed_middle, placed_uses, place_step}
use Rattle.history.specs.LinePutEnd.{settled_inv, settled_lives}

-- before path i: its middle, and what the paths before it have passed
record Turned (root : List ℕ) (L : Lines) (s r : ℕ) (entry : List ℕ) (freed : ℕ → List ℕ) (a : Area) (i : ℕ) (l : Lined) : Type 0 where
  pub middle : Middle root L s r freed a (lines_to root L s entry r i) l.area
  pub uses : Uses root l.area
  pub four : length l.passed ≡ max_paths
  pub told : (q : ℕ) → 1 ≤ q → q < i → word l.passed (q - 1) ≡ reported line_record same_key (above (path_of root s q)) (L s q) (line_of (path_of root s q) entry r)

-- the state after a path's answer
abbrev with_path : Lined → ℕ → Placed → Lined
with_path l i t = record { area = t.area; passed = set l.passed (i - 1) t.passed }

module _ (root : List ℕ) (g : root_good root ≡ true) {L : Lines} {s r : ℕ} (S : IsSet root s) (D : detail (kind root s) ≡ true) {entry : List ℕ} (e : length entry ≡ (shape_of root s).entry)
    {freed : ℕ → List ℕ} {a : Area} (R : In (shape_of root s) r) (dead : alive a (shape_of root s) r ≡ false) where
  -- one turn
  turn : (i : ℕ) → IsPath root s i → (l : Lined) → Turned root L s r entry freed a i l
      → Ended (λ t. Turned root L s r entry freed a (i + 1) (with_path l i t)) (put_path (shape_of root s) (path_of root s i) i l.area r entry)
  unfolding put_path
  turn i P l T = go (entry_step root g entry e T.middle T.uses i P)
    where
      telling : (v : ℕ) → v ≡ reported line_record same_key (above (path_of root s i)) (L s i) (line_of (path_of root s i) entry r) → (q : ℕ) → 1 ≤ q → q < i + 1 → Dec (q ≡ i)
          → word (set l.passed (i - 1) v) (q - 1) ≡ reported line_record same_key (above (path_of root s q)) (L s q) (line_of (path_of root s q) entry r)
      telling v h q lo hi (yes z) = rw z (get_or-set_same l.passed (i - 1) v 0 (omega (arith, T.four, P.low, P.high, (as_detail root g s S D).paths)) ∙ h)
      telling v h q lo hi (no d) = get_or-set_other l.passed (i - 1) (q - 1) v 0 (λ z. d (omega (arith, P.low))) ∙ T.told q lo (omega arith)

      go : Ended (Ready root L s r entry freed a (lines_to root L s entry r i) i) (master_entry (path_of root s i) i l.area (value (path_of root s i).search entry))
          → Ended (λ t. Turned root L s r entry freed a (i + 1) (with_path l i t)) (put_path (shape_of root s) (path_of root s i) i l.area r entry)
      go (stopped why n q) = stopped why n (stops _ q)
      go (passed u q Y) =
          let o = place_step root g i P u.at Y.middle R dead Y.stands in
          passed _ (goes _ q o.answer) (record {
            middle = placed_middle root g i P u.at Y.middle Y.stands.live o;
            uses = placed_uses root g i P u.at Y.middle Y.stands.live o Y.uses;
            four = length-set l.passed (i - 1) _ ∙ T.four;
            told = λ q lo hi. telling _ refl q lo hi (ℕ_discrete q i);
          })

  -- n turns from path i on
  turns : (n i : ℕ) → n + i ≡ suc (path_count root s) → 1 ≤ i → (l : Lined) → Turned root L s r entry freed a i l
      → Ended (Turned root L s r entry freed a (suc (path_count root s))) (put_paths (detail_of root s) entry r n i l)
  unfolding put_paths detail_of
  turns zero i h lo l T = passed l refl (subst (λ j. Turned root L s r entry freed a j l) (omega arith) T)
  turns (suc n) i h lo l T = go (turn i record { set = S; lines = D; low = lo; high = omega arith } l T) (turns n (i + 1) (omega arith) (omega arith))
    where
      then : {x : Placed} → put_path (shape_of root s) (path_of root s i) i l.area r entry ≡ accept x
          → Ended (Turned root L s r entry freed a (suc (path_count root s))) (put_paths (detail_of root s) entry r n (i + 1) (with_path l i x))
          → Ended (Turned root L s r entry freed a (suc (path_count root s))) (put_paths (detail_of root s) entry r (suc n) i l)
      then q (stopped why d p) = stopped why d (goes _ q p)
      then q (passed x p Y) = passed x (goes _ q p) Y

      go : Ended (λ t. Turned root L s r entry freed a (i + 1) (with_path l i t)) (put_path (shape_of root s) (path_of root s i) i l.area r entry)
          → ((l : Lined) → Turned root L s r entry freed a (i + 1) l → Ended (Turned root L s r entry freed a (suc (path_count root s))) (put_paths (detail_of root s) entry r n (i + 1) l))
          → Ended (Turned root L s r entry freed a (suc (path_count root s))) (put_paths (detail_of root s) entry r (suc n) i l)
      go (stopped why d q) rest = stopped why d (stops _ q)
      go (passed x q Y) rest = then q (rest (with_path l i x) Y)

set_full : SetFull ≢ Broken
unfolding number twos
set_full e = omega (arith, ap (λ w. twos (number w)) e)

module _ (root : List ℕ) (g : root_good root ≡ true) (a : Area) (L : Lines) (I : AreaInv root a L) (s : ℕ) (S : IsSet root s) (D : detail (kind root s) ≡ true) (entry : List ℕ)
    (e : length entry ≡ (shape_of root s).entry) where
  -- before path 1
  begun : (r : ℕ) → Turned root L s r entry I.freed a 1 (record { area = a; passed = none_passed })
  begun r = record {
    middle = record {
      size = I.size;
      masters = I.masters;
      frees = λ t T h d. I.frees t T h;
      still = still_self a;
      lives = λ t j T h. refl;
      ons = λ t q P. rw (lines_none root L s entry r t q P.low) (I.paths t q P).on;
      ties = λ t q P. (I.paths t q P).tie;
    };
    uses = I.used;
    four = length-replicate {A = ℕ} max_paths 0;
    told = λ q lo hi. absurd (omega (arith, lo, hi));
  }

  -- after the last path
  ended : (u : Taken) → Took (shape_of root s) a (I.freed s) u → (l : Lined) → Turned root L s u.at entry I.freed a (suc (path_count root s)) l
      → PutDone root a L s entry (record { at = u.at; area = settle (shape_of root s) l.area u entry; passed = l.passed })
  ended u K l T =
      let N : Settled (shape_of root s) u entry l.area _ = settled (sane root g s (as_set S)) l.area u entry T.middle.size K.row e in
      record {
        kept = settled_inv root g S D (I.frees s S D) K T.middle T.uses N;
        row = K.row;
        dead = K.dead;
        live = N.live;
        lives = settled_lives root g S D (I.frees s S D) K T.middle T.uses N;
        four = T.four;
        passed = λ p P. T.told p P.low (omega (arith, P.high));
      }

  -- how the put ends, by how its outcome is
  end_as : {o : Outcome Line} → Ended (PutDone root a L s entry) o → PutEnds root a L s entry o
  end_as (stopped why n q) = subst (PutEnds root a L s entry) (sym q) (refused why n)
  end_as (passed l q Y) = subst (PutEnds root a L s entry) (sym q) (done l Y)

  with_record : (u : Taken) → Took (shape_of root s) a (I.freed s) u → Ended (PutDone root a L s entry) (put_taken (detail_of root s) u a entry)
  unfolding put_taken detail_of
  with_record u K = go (turns root g S D e K.row K.dead (path_count root s) 1 (omega arith) (omega arith) _ (begun u.at))
    where
      go : Ended (Turned root L s u.at entry I.freed a (suc (path_count root s))) (put_paths (detail_of root s) entry u.at (path_count root s) 1 (record { area = a; passed = none_passed }))
          → Ended (PutDone root a L s entry) (put_taken (detail_of root s) u a entry)
      go (stopped why n q) = stopped why n (stops _ q)
      go (passed l q Y) = passed _ (goes _ q refl) (ended u K l Y)

  put_outcome : Ended (PutDone root a L s entry) (put_line (detail_of root s) a entry)
  unfolding put_line detail_of
  put_outcome = go (take_says (sane root g s (as_set S)) a (I.freed s) (I.frees s S D))
    where
      then : (u : Taken) → Ended (PutDone root a L s entry) (put_taken (detail_of root s) u a entry) → take_record (shape_of root s) a ≡ accept u
          → Ended (PutDone root a L s entry) (put_line (detail_of root s) a entry)
      then u (stopped why n p) q = stopped why n (goes _ q p)
      then u (passed l p Y) q = passed l (goes _ q p) Y

      go : Take (shape_of root s) a (I.freed s) → Ended (PutDone root a L s entry) (put_line (detail_of root s) a entry)
      go (full q h) = stopped SetFull set_full (stops _ q)
      go (took u q K) = then u (with_record u K) q

pub line_put_right : (root : List ℕ) → root_good root ≡ true → (a : Area) (L : Lines) → AreaInv root a L → (s : ℕ) → IsSet root s → detail (kind root s) ≡ true
    → (entry : List ℕ) → length entry ≡ (shape_of root s).entry → PutEnds root a L s entry (put_line (detail_of root s) a entry)
line_put_right root g a L I s S D entry e = end_as root g a L I s S D entry e (put_outcome root g a L I s S D entry e)
