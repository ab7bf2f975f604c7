-- What the reading calls answer, as outcomes of the definitions.
-- Assumes nothing.
use Rattle.std.specs.Prelude.{ℕ, ◌+◌, ◌-◌, ◌≤◌, false, Result, Ok, Err}
use Rattle.spec.specs.declared.Refusal.{Refusal}
use Rattle.spec.specs.declared.Refusal.TheVariants.{NoMode}
use Rattle.spec.specs.declared.Shape.{Shape}
use Rattle.spec.specs.Outcome.{Outcome, accept, refuse, require, ◌>>=◌}
use Rattle.spec.specs.Layout.{View}
use Rattle.spec.specs.Area.{Area, entry_at}
use Rattle.spec.specs.Cursor.{ByNumber as Number, current, above, below, given, Along as Way, forward, backward, Reading as ReadBy, by_number, along, by_key, reading, mode_good}
use Rattle.spec.specs.Calls.{Done}
use Rattle.area.specs.MapLaws.{Alike}
use Rattle.session.specs.Answers.{done_out}
use Rattle.reads.specs.declared.ByNumber.{ByNumber}
use Rattle.reads.specs.declared.ByNumber.TheVariants.{Current, Above, Below, Given}
use Rattle.reads.specs.declared.Along.{Along}
use Rattle.reads.specs.declared.Along.TheVariants.{Forward, Backward}
use Rattle.reads.specs.declared.Reading.{Reading}
use Rattle.reads.specs.declared.Reading.TheVariants.{Numbered, Chained, Keyed}
use Rattle.reads.specs.declared.got.Got.{Got}

-- what a mode reads, in the definitions' words
abbrev pub number_of : ByNumber → Number
number_of Current = current
number_of Above = above
number_of Below = below
number_of Given = given

abbrev pub along_of : Along → Way
along_of Forward = forward
along_of Backward = backward

abbrev pub read_by : Reading → ReadBy
read_by (Numbered which) = by_number (number_of which)
read_by (Chained way) = along (along_of way)
read_by (Keyed m) = by_key m.now.master

-- −31, then what mode 1 to 7 reads
abbrev pub mode_out : Result Reading Refusal → Outcome ReadBy
mode_out (Ok how) = accept (read_by how)
mode_out (Err why) = refuse why

unfoldable pub mode_read : View → ℕ → Outcome ReadBy
mode_read v mode = do
  _ ← require (mode_good (reading v mode)) NoMode
  accept (reading v mode)

-- a get's outcome, with the words of the entry that it reads
abbrev pub got_out : Result Got Refusal → Area → Outcome Done
got_out (Ok got) a = done_out (Ok got.good) a (entry_at got.shape a got.good.at)
got_out (Err why) a = refuse why

-- the 16 records above r, or from r down, are those of a word of the map and all unused
pub record EmptyAbove (s : Shape) (a : Area) (r : ℕ) : Type 0 where
  pub within : r + 16 ≤ s.cap
  pub alike : Alike s a (r + 1) false

pub record EmptyDown (s : Shape) (a : Area) (r : ℕ) : Type 0 where
  pub many : 16 ≤ r
  pub alike : Alike s a (r - 15) false
