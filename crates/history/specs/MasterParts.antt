-- The two writings that every master step ends in: a new entry in a record, and a record made unused. What each shows in its record, and that it leaves all else.
use Rattle.std.specs.Prelude.{◌≡◌, refl, ◌≢◌, List, true, false, not, ℕ, ◌+◌, ◌-◌, ◌≤◌, ◌<◌, length, replicate, T, eqb}
use Rattle.std.proofs.Common.{sym, ap, ◌∙◌, subst, inr, arith}
use Rattle.spec.specs.declared.Shape.{Shape}
use Rattle.spec.specs.declared.Head.{Head}
use Rattle.spec.specs.declared.Master.{Master}
use Rattle.spec.specs.Area.{Area, value}
use Rattle.spec.specs.Master.{enter, erase}
use Rattle.history.specs.Chain.{All, ◌⨾◌, all_map}
use Rattle.history.specs.Runs.{num_one}
use Rattle.history.specs.Shapes.{Sane, Beside, In}
use Rattle.history.specs.Spots.{set_of, kind_of, held, val, alive, held_part, lead, cell}
use Rattle.history.specs.Writes.{Write, target}
use Rattle.history.specs.Apart.{Kept, kept_self, kept_then, by_kind, by_place, by_record, by_flag}
use Rattle.history.specs.Shown.{gives_put, gives_turn, gives_zeros, two_val, here, ◌▸◌}
use Rattle.history.specs.Writers.{Ran, start, ran_length, ran_held, ran_val, ran_alive, ran_kept, shows_held, shows_val, shows_alive}
use Rattle.history.specs.Sets.{MasterOk}
use Rattle.history.specs.Steps.{entry_fit, whole_fit, enter_run, erase_run}

-- ---- a step in the records of one set

pub record Own (s : Shape) (a b : Area) : Type 0 where
  pub long : length b ≡ length a
  pub leads : (i : ℕ) → val b (lead s i) ≡ val a (lead s i)
  pub others : (t : Shape) → Beside s t → Kept t a b

pub own_self : {s : Shape} (a : Area) → Own s a a
own_self a = record { long = refl; leads = λ i. refl; others = λ t B. kept_self a }

pub own_then : {s : Shape} {a b c : Area} → Own s a b → Own s b c → Own s a c
own_then p q = record { long = q.long ∙ p.long; leads = λ i. q.leads i ∙ p.leads i; others = λ t B. kept_then (p.others t B) (q.others t B) }

-- a write in a record of the set, or to a bit of its map: `(refl, tt)`
abbrev pub Mine : Shape → Write → Type 0
Mine s w = (set_of (target w) ≡ s) × T (not (eqb (kind_of (target w)) 0))

pub own_run : {size : ℕ} {s : Shape} {a b : Area} {ws : List Write} → Sane size s → Ran a ws b → All (Mine s) ws → Own s a b
own_run {s = s} {ws = ws} S R k = record {
  long = ran_length R;
  leads = λ i. ran_val R (lead s i) (all_map ws (λ w (o : Mine s w). by_kind S o.0 o.1) k);
  others = λ t B. ran_kept R t (all_map ws (λ w (o : Mine s w). subst (λ q. Beside q t) (sym o.0) B) k);
}

-- a step in record r alone
pub record Alone (s : Shape) (a b : Area) (r : ℕ) : Type 0 where
  pub own : Own s a b
  pub cells : (j i n : ℕ) → j ≢ r → held b (cell s j i n) ≡ held a (cell s j i n)
  pub flags : (j : ℕ) → j ≢ r → alive b s j ≡ alive a s j

-- ---- a new entry, and a record made unused

pub record Entered (m : Master) (a b : Area) (r : ℕ) (y : Head) (entry : List ℕ) : Type 0 where
  pub rest : Alone m.shape a b r
  pub live : alive b m.shape r ≡ true
  pub count : val b (cell m.shape r 0 1) ≡ y.count
  pub back : val b (cell m.shape r 1 2) ≡ y.back
  pub fore : val b (cell m.shape r 3 2) ≡ y.fore
  pub empty : (i n : ℕ) → 5 ≤ i → i + n ≤ m.shape.front → held b (cell m.shape r i n) ≡ replicate n 0
  pub stored : held b (cell m.shape r m.shape.front m.shape.entry) ≡ entry
  pub key : held b (cell m.shape r (m.shape.front + m.key.at) m.key.size) ≡ value m.key entry

pub record Erased (m : Master) (a b : Area) (r : ℕ) : Type 0 where
  pub rest : Alone m.shape a b r
  pub dead : alive b m.shape r ≡ false
  pub zeros : held b (cell m.shape r 0 m.shape.width) ≡ replicate m.shape.width 0

module _ {size : ℕ} {m : Master} (M : MasterOk size m) (a : Area) (l : length a ≡ size) (r : ℕ) (R : In m.shape r) where
  pub entered : (y : Head) (entry : List ℕ) → length entry ≡ m.shape.entry → y.back < 4294967296 → y.fore < 4294967296 → Entered m a (enter m a r y entry) r y entry
  entered y entry n b f =
      let step = enter_run M start {y = y} R n in
      let stored = shows_held step l (cell m.shape r m.shape.front m.shape.entry) (by_kind M.sane refl tt ▸ here (gives_put M.sane (entry_fit M.sane R) n)) in
      record {
        rest = record {
          own = own_run M.sane step ((refl, tt) ⨾ (refl, tt) ⨾ (refl, tt) ⨾ (refl, tt) ⨾ (refl, tt) ⨾ (refl, tt) ⨾ tt);
          cells = λ j i k d. ran_held step (cell m.shape j i k) (by_kind M.sane refl tt ⨾ by_record d ⨾ by_record d ⨾ by_record d ⨾ by_record d ⨾ by_record d ⨾ tt);
          flags = λ j d. ran_alive step m.shape j (by_flag d ⨾ by_kind M.sane refl tt ⨾ by_kind M.sane refl tt ⨾ by_kind M.sane refl tt ⨾ by_kind M.sane refl tt ⨾ by_kind M.sane refl tt ⨾ tt);
        };
        live = shows_alive step l m.shape r true (here (gives_turn M.sane R));
        count = shows_val step l (cell m.shape r 0 1)
            (by_kind M.sane refl tt ▸ by_place (inr (omega (arith, M.front))) ▸ by_place (inr (omega arith)) ▸ by_place (inr (omega arith)) ▸ by_place (inr (omega arith)) ▸ here (gives_put M.sane record { row = R; wide = omega (arith, M.sane.filled, M.front) } refl)) (num_one y.count);
        back = shows_val step l (cell m.shape r 1 2)
            (by_kind M.sane refl tt ▸ by_place (inr (omega (arith, M.front))) ▸ by_place (inr (omega arith)) ▸ by_place (inr (omega arith)) ▸ here (gives_put M.sane record { row = R; wide = omega (arith, M.sane.filled, M.front) } refl)) (two_val y.back b);
        fore = shows_val step l (cell m.shape r 3 2)
            (by_kind M.sane refl tt ▸ by_place (inr (omega (arith, M.front))) ▸ by_place (inr (omega arith)) ▸ here (gives_put M.sane record { row = R; wide = omega (arith, M.sane.filled, M.front) } refl)) (two_val y.fore f);
        empty = λ i k p q. shows_held step l (cell m.shape r i k)
            (by_kind M.sane refl tt ▸ by_place (inr (omega arith)) ▸ here (gives_zeros M.sane (m.shape.front - 5) (i - 5) record { row = R; wide = omega (arith, M.sane.filled) } (omega arith) (omega arith)));
        stored = stored;
        key = held_part (enter m a r y entry) m.shape r m.shape.front m.shape.entry (m.shape.front + m.key.at) m.key.size m.key.at (omega (arith, M.sane.filled)) refl M.key.fits ∙ ap (value m.key) stored;
      }

  pub erased : Erased m a (erase m a r) r
  erased =
      let step = erase_run M start R in
      record {
        rest = record {
          own = own_run M.sane step ((refl, tt) ⨾ (refl, tt) ⨾ tt);
          cells = λ j i k d. ran_held step (cell m.shape j i k) (by_kind M.sane refl tt ⨾ by_record d ⨾ tt);
          flags = λ j d. ran_alive step m.shape j (by_flag d ⨾ by_kind M.sane refl tt ⨾ tt);
        };
        dead = shows_alive step l m.shape r false (here (gives_turn M.sane R));
        zeros = shows_held step l (cell m.shape r 0 m.shape.width) (by_kind M.sane refl tt ▸ here (gives_zeros M.sane m.shape.width 0 (whole_fit R) refl (omega arith)));
      }
