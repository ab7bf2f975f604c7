use Rattle.std.proofs.Common.{◌≡◌}
use Rattle.std.proofs.Math.ListN.{take}
use Rattle.journal.specs.Journal.{rewound, written}
use Rattle.journal.proofs.Journal.rewind.Given as goal

abbrev pub invariant-loop-k : goal.invariant-loop-k
invariant-loop-k l = record {
  lent : l.self.area.ghost_name ≡ l.initial.self.area.ghost_name;
  held : l.self.room.ghost_name ≡ l.initial.self.room.ghost_name;
  room : l.self.room.now ≡ l.initial.self.room.now;
  count : l.self.count ≡ l.initial.self.count;
  back : rewound (take l.k l.self.room.now) l.self.area.now ≡ rewound (written l.initial.self) l.initial.self.area.now;
}
