-- Of the making of a base. Assumes nothing.
use Rattle.std.proofs.Common.{ℕ, ◌≡◌, List, length, replicate, arith}
use Rattle.std.proofs.lemmas.List.{length-replicate}
use Rattle.std.proofs.lemmas.Grind.{common_steps}
use Rattle.std.proofs.lemmas.List.Edits.{sets, sets-eq}

-- a run as long as what it is laid over is all that is left
whole : (vs l : List ℕ) → length vs ≡ length l → sets l 0 vs ≡ vs
whole vs l e = rw (sets-eq vs l 0 (omega arith)) (grind (arith, common_steps))

-- zeros laid over all words of the area
pub cleared : (a : List ℕ) → sets a 0 (replicate (length a) 0) ≡ replicate (length a) 0
cleared a = whole (replicate (length a) 0) a (length-replicate (length a) 0)
