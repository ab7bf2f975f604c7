use Rattle.std.proofs.Common.{◌≡◌, ◌≤◌, ◌+◌, ◌-◌, length}
use Rattle.journal.proofs.Laws.{KeptTo}
use Rattle.journal.proofs.Journal.keep.Given as goal

abbrev pub invariant-loop-i : goal.invariant-loop-i
invariant-loop-i l = record {
  lent : l.self.area.ghost_name ≡ l.initial.self.area.ghost_name;
  held : l.self.room.ghost_name ≡ l.initial.self.room.ghost_name;
  area : l.self.area.now ≡ l.initial.self.area.now;
  size : length l.self.room.now ≡ length l.initial.self.room.now;
  count : l.self.count ≤ l.initial.self.count + (l.i - l.at);
  kept : KeptTo l.initial.self l.at l.len l.i l.self;
}
