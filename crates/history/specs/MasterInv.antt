-- The invariant of a master in an area: its synonym chains are right, its leading words are 0, its unused records are zeros. A new base has it; a step that does not
-- touch what it speaks of keeps it; and under it the synonym words of every live record are read without trouble.
use Rattle.std.specs.Prelude.{◌≡◌, refl, ◌⊎◌, List, [], true, ℕ, ◌≤◌, length, replicate}
use Rattle.std.proofs.Math.Path.{sym, subst}
use Rattle.std.proofs.Common.{ap, ◌∙◌, inl, inr, arith, ne_eqb}
use Rattle.std.proofs.Math.Bool.{false, not}
use Rattle.std.proofs.lemmas.List.{length-replicate}
use Rattle.spec.specs.declared.Refusal.TheVariants.{Broken}
use Rattle.spec.specs.declared.Master.{Master}
use Rattle.spec.specs.Outcome.{accept}
use Rattle.spec.specs.Area.{Area, synonyms}
use Rattle.spec.specs.Master.{address, primary_of}
use Rattle.spec.specs.Follow.{goes, passes}
use Rattle.history.specs.Synonym.{Store, Inv, inv_new}
use Rattle.history.specs.SynWords.{Words, linked, Secondary, secondary}
use Rattle.history.specs.Shapes.{In}
use Rattle.history.specs.Spots.{held, val, alive, new_held, new_val, new_dead, lead, cell}
use Rattle.history.specs.Apart.{Kept}
use Rattle.history.specs.Reads.{head_in, alive_in, follow_accepts, synonyms_accepts}
use Rattle.history.specs.Sets.{MasterOk}
use Rattle.history.specs.Steps.{whole_fit, synonym_fit}
use Rattle.history.specs.Stores.{entries, entries_key, kept_held, kept_lead, entries_kept}

pub record MasterInv (size : ℕ) (m : Master) (a : Area) : Type 0 where
  pub long : length a ≡ size
  -- for each primary, its secondaries from the first on
  pub syn : ℕ → List ℕ
  pub chains : Inv (address m) m.shape.cap (entries m a) syn
  pub leads : (i : ℕ) → val a (lead m.shape i) ≡ 0
  pub unused : (r : ℕ) → In m.shape r → alive a m.shape r ≡ false → held a (cell m.shape r 0 m.shape.width) ≡ replicate m.shape.width 0

-- "A new base is all zeros."
pub new_master : (size : ℕ) (m : Master) → MasterInv size m (replicate size 0)
unfolding entries
new_master size m = record {
  long = length-replicate size 0;
  syn = λ h. [];
  chains = inv_new (address m) m.shape.cap (entries m (replicate size 0)) (λ r. new_dead size m.shape r);
  leads = λ i. new_val size (lead m.shape i);
  unused = λ r h d. new_held size (whole_fit h);
}

module _ {size : ℕ} {m : Master} {a b : Area} (I : MasterInv size m a) (l : length b ≡ size) where
  -- a step that leaves marks, keys, synonym words, leading words and unused records
  pub master_same : entries m b ≡ entries m a → ((i : ℕ) → val b (lead m.shape i) ≡ val a (lead m.shape i))
      → ((r : ℕ) → alive a m.shape r ≡ false → held b (cell m.shape r 0 m.shape.width) ≡ held a (cell m.shape r 0 m.shape.width)) → MasterInv size m b
  unfolding entries
  master_same e q d = record {
    long = l;
    syn = I.syn;
    chains = subst (λ S. Inv (address m) m.shape.cap S I.syn) (sym e) I.chains;
    leads = λ i. q i ∙ I.leads i;
    unused = λ r h n. let o : alive a m.shape r ≡ false = sym (ap (λ (S : Store (List ℕ)). S.live r) e) ∙ n in d r o ∙ I.unused r h o;
  }

  -- a step in other sets
  pub master_kept : Kept m.shape a b → MasterInv size m b
  master_kept K = master_same (entries_kept m K) (kept_lead K) (λ r _. kept_held K r 0 m.shape.width)

-- ---- what is read of a live record

module _ {size : ℕ} {m : Master} {a : Area} (I : MasterInv size m a) where
  pub words_of : (r : ℕ) → alive a m.shape r ≡ true → Words m.shape.cap (entries m a) r
  unfolding entries
  words_of r e = linked (address m) I.chains r e

  pub second_of : (r : ℕ) → alive a m.shape r ≡ true → (entries m a).cnt r ≡ 0 → Secondary (address m) (entries m a) I.syn r
  unfolding entries
  second_of r e z = secondary (address m) I.chains r e z

  pub live_high : (x : ℕ) → (x ≡ 0) ⊎ (alive a m.shape x ≡ true) → x ≤ m.shape.cap
  live_high x (inl e) = omega arith
  live_high x (inr e) = (alive_in a x e).high

module _ {size : ℕ} {m : Master} {a : Area} (M : MasterOk size m) (I : MasterInv size m a) where
  -- its five words
  pub synonyms_read : (r : ℕ) → alive a m.shape r ≡ true → synonyms m.shape a r ≡ accept (head_in a m.shape r 0)
  unfolding entries
  synonyms_read r e =
      let W = words_of I r e in
      synonyms_accepts a (synonym_fit M (alive_in a r e)) W.count (live_high I _ W.back.live) W.back.off (live_high I _ W.fore.live) W.fore.off

  -- the primary of a secondary, found from its key
  pub primary_read : (r : ℕ) → alive a m.shape r ≡ true → (entries m a).cnt r ≡ 0 → primary_of m a r ≡ accept (address m ((entries m a).key r))
  unfolding primary_of
  primary_read r e z =
      let Y = second_of I r e z in
      rw (entries_key m a r M I.long (alive_in a r e))
      (goes _ (passes Broken (ap not (ne_eqb _ r Y.off))) (goes _ (follow_accepts a m.shape (address m ((entries m a).key r)) (inr (unfold entries in Y.live))) refl))
