-- Where a line has no word. Assumes nothing.
use Rattle.std.specs.Prelude.{ℕ, ◌≡◌, List, length, drop}
use Rattle.std.specs.List.{prefix_len}
use Rattle.std.proofs.Common.{arith, drop-cons}
use Rattle.std.proofs.lemmas.Grind.{common_steps}
use Rattle.std.proofs.lemmas.List.Sums.{prefix_len_stops, prefix_len-le-length}
use Rattle.lines.specs.Lines.{blank, letter}

-- what is no blank is a letter, so without a letter after the blanks there is nothing after them
pub no_word : (line : List ℕ) → prefix_len letter (drop (prefix_len blank line) line) ≡ 0 → prefix_len blank line ≡ length line
no_word line h = grind (arith, common_steps, prefix_len_stops blank line 0, prefix_len-le-length blank line, drop-cons line (prefix_len blank line) 0)
