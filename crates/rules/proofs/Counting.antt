-- What is counted of the sets one after another. Assumes nothing.
use Prim.Native.Nat.{ℕ, ◌+◌, ◌≤◌}
use mathlib.Core.Path.{◌≡◌}
use mathlib.Core.Bool.{true}
use mathlib.Core.List.{List}
use native.Mathlib.Omega.{arith}
use Rattle.std.proofs.lemmas.Grind.{common_steps}
use lib.ListN.{length, replicate}
use Rattle.spec.specs.Words.{all, total}
use Rattle.spec.specs.Root.{sets, path_count, leading, set_good}
use Rattle.root.specs.Plan.{Leads, Slots}
use Rattle.root.specs.Ranges.{all_at}
use Rattle.root.specs.Good.{paths_few, leading_step, leading_from_none}
use Rattle.rules.specs.Rules.{set_judged, Counted}

-- ---- the counts of paths
module _ (root leads slots : List ℕ) where
  pub counted_start : leads ≡ replicate 16 0 → length slots ≡ 64 → Counted root 1 0 leads slots
  unfolding leading total
  counted_start e l =
      record {
        leads_long = rw e;
        slots_long = l;
        led = λ m l h. grind (arith, common_steps, leading_from_none root m 1);
        slotted = λ t q a b c d f. absurd (omega arith);
        small = λ k. grind (arith, common_steps);
      }

  module _ (s : ℕ) where
    pub counted_set :
        1 ≤ s → set_good root s ≡ true → Counted root s (path_count root s) leads slots → Counted root (s + 1) 0 leads slots
    counted_set l h f =
        record {
          leads_long = f.leads_long;
          slots_long = f.slots_long;
          led = λ m a k. grind (arith, f.led m a k, leading_from_none root m (s + 1), leading_step root m s l);
          slotted = λ t q a b c d o. grind (arith, f.slotted t q a b c d, paths_few root s h);
          small = λ k. grind (arith, f.small k, paths_few root s h);
        }

-- ---- what is counted in the end
module _ (root leads slots : List ℕ) (s : ℕ) (p : s ≡ sets root + 1) (g : Counted root s 0 leads slots) where
  pub leads_whole : sets root ≤ 16 → Leads root leads
  unfolding Leads
  leads_whole h m l k = grind (arith, leading_from_none root m s, g.led m l)

  pub slots_whole : all (sets root) (set_judged root) ≡ true → Slots root slots
  unfolding Slots set_judged
  slots_whole e t q l h k o = grind (arith, g.slotted t q l k, paths_few root t, all_at (set_judged root) (sets root) t e l h)
