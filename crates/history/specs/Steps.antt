-- The writing steps of the definitions as runs of writes, each a literal list with the last write first; and that each word they touch is one that the set has.
use Rattle.std.specs.Prelude.{◌≡◌, List, ◌∷◌, Bool, true, false, cond, ℕ, ◌+◌, ◌-◌, ◌≤◌, replicate, eqb}
use Rattle.std.proofs.Common.{sym, ◌∙◌, arith}
use Rattle.std.proofs.Math.Path.{ap}
use Rattle.std.proofs.Math.Nat.{mod-lt}
use Rattle.std.proofs.Math.ListN.{length}
use Rattle.spec.specs.declared.Shape.{Shape}
use Rattle.spec.specs.declared.Head.{Head}
use Rattle.spec.specs.declared.Links.{Links}
use Rattle.spec.specs.declared.Master.{Master}
use Rattle.spec.specs.declared.Path.{Path}
use Rattle.spec.specs.declared.Spot.{Spot}
use Rattle.spec.specs.declared.Taken.{Taken}
use Rattle.spec.specs.Area.{Area, peek_part, poke_part, copy_part}
use Rattle.spec.specs.Master.{key_number, address_in, address, enter, carry, erase, new_last}
use Rattle.spec.specs.Detail.{link_neighbours, new_ends, link_own, link_in, settle, unlink_neighbours, old_ends, link_out, free_record}
use Rattle.history.specs.Shapes.{Sane, In, Fit, Near}
use Rattle.history.specs.Spots.{held, held_length, cell}
use Rattle.history.specs.Writes.{Write, run, run_length, one, two, many, put, note, turn}
use Rattle.history.specs.Reads.{peek_part_held}
use Rattle.history.specs.Writers.{Ran, by_poke_part, by_blank, by_put_entry, by_set_mark, by_set_freed, by_go_live, by_go_unused, by_if, by_mend_back, by_mend_fore, by_head_count, by_set_last, by_set_first, by_next_freed, by_synonym_back, by_synonyms}
use Rattle.history.specs.Sets.{MasterOk, PathOk}

-- ---- the words that a record has

pub in_near : {s : Shape} {r i n : ℕ} → Fit s r i n → Near s r i n
in_near f = record { high = f.row.high; wide = f.wide }

pub first_fit : {size : ℕ} {s : Shape} {r : ℕ} → Sane size s → In s r → Fit s r 0 1
first_fit S h = record { row = h; wide = omega (arith, S.filled, S.some) }

pub entry_fit : {size : ℕ} {s : Shape} {r : ℕ} → Sane size s → In s r → Fit s r s.front s.entry
entry_fit S h = record { row = h; wide = omega (arith, S.filled) }

pub whole_fit : {s : Shape} {r : ℕ} → In s r → Fit s r 0 s.width
whole_fit h = record { row = h; wide = omega arith }

module _ {size : ℕ} {m : Master} (M : MasterOk size m) where
  pub synonym_near : {r : ℕ} → r ≤ m.shape.cap → Near m.shape r 0 5
  synonym_near h = record { high = h; wide = omega (arith, M.sane.filled, M.front) }

  pub synonym_fit : {r : ℕ} → In m.shape r → Fit m.shape r 0 5
  synonym_fit h = record { row = h; wide = omega (arith, M.sane.filled, M.front) }

  pub key_fit : {r : ℕ} → In m.shape r → Fit m.shape r (m.shape.front + m.key.at) m.key.size
  key_fit h = record { row = h; wide = omega (arith, M.sane.filled, M.key.fits) }

  -- "Primary address for key number v and capacity C"
  pub address_in_set : (key : List ℕ) → In m.shape (address m key)
  unfolding address address_in
  address_in_set key = record { low = omega arith; high = omega (arith, mod-lt (key_number (cond m.text 257 65536) 0 key + m.shape.cap - 1) {m = m.shape.cap} M.sane.cap_low) }

module _ {size : ℕ} {d : Shape} {p : Path} (S : Sane size d) (P : PathOk size d p) where
  pub head_fit : {k : ℕ} → In p.to.shape k → Fit p.to.shape k p.head 5
  head_fit h = record { row = h; wide = omega (arith, P.to.sane.filled, P.to.front, P.head_at, P.slot_in) }

  pub links_near : {r : ℕ} → r ≤ d.cap → Near d r p.links 4
  links_near h = record { high = h; wide = omega (arith, S.filled, P.links_in) }

  pub links_fit : {r : ℕ} → In d r → Fit d r p.links 4
  links_fit h = record { row = h; wide = omega (arith, S.filled, P.links_in) }

  pub search_fit : {r : ℕ} → In d r → Fit d r (d.front + p.search.at) p.search.size
  search_fit h = record { row = h; wide = omega (arith, S.filled, P.search.fits) }

  pub sort_fit : {r : ℕ} → p.sorted ≡ true → In d r → Fit d r (d.front + p.sort.at) p.sort.size
  sort_fit e h = record { row = h; wide = omega (arith, S.filled, (P.sort e).fits) }

-- ---- master steps

-- what each step writes, before what was written already
abbrev pub enter_writes : Master → ℕ → Head → List ℕ → List Write → List Write
enter_writes m r y entry ws =
    turn m.shape r true
    ∷ put m.shape r m.shape.front (many entry)
    ∷ put m.shape r 5 (many (replicate (m.shape.front - 5) 0))
    ∷ put m.shape r 3 (two y.fore)
    ∷ put m.shape r 1 (two y.back)
    ∷ put m.shape r 0 (one y.count)
    ∷ ws

abbrev pub carry_writes : Master → ℕ → List ℕ → List Write → List Write
carry_writes m f vs ws = turn m.shape f true ∷ put m.shape f 0 (many vs) ∷ ws

abbrev pub erase_writes : Master → ℕ → List Write → List Write
erase_writes m r ws = turn m.shape r false ∷ put m.shape r 0 (many (replicate m.shape.width 0)) ∷ ws

abbrev pub new_last_writes : Master → ℕ → Head → List Write → List Write
new_last_writes m r y ws = put m.shape (cond (eqb y.fore 0) r 0) 1 (two (cond (eqb y.back r) 0 y.back)) ∷ ws

abbrev pub copy_writes : Master → ℕ → Area → ℕ → List Write → List Write
copy_writes m r c f ws = put m.shape r 5 (many (held c (cell m.shape f 5 (m.shape.width - 5)))) ∷ ws

module _ {size : ℕ} {m : Master} (M : MasterOk size m) {a b : Area} {ws : List Write} (R : Ran a ws b) where
  pub enter_run : {r : ℕ} {y : Head} {entry : List ℕ} → In m.shape r → length entry ≡ m.shape.entry
      → Ran a (enter_writes m r y entry ws) (enter m b r y entry)
  unfolding enter
  enter_run h l = by_go_live (by_put_entry (by_blank (by_synonyms R (synonym_fit M h)) record { row = h; wide = omega (arith, M.front, M.sane.filled) }) M.sane h l) h

  -- vs is what record h has by then
  pub carry_run : {h f : ℕ} {vs : List ℕ} → length a ≡ size → In m.shape h → In m.shape f → held (run a ws) (cell m.shape h 0 m.shape.width) ≡ vs
      → Ran a (carry_writes m f vs ws) (carry m b h f)
  unfolding carry copy_part
  carry_run {h} {f} {vs} l i j e =
      let q : peek_part m.shape b h 0 m.shape.width ≡ vs = peek_part_held b M.sane (ap length R.made ∙ run_length ws a ∙ l) (whole_fit i) ∙ ap (λ c. held c (cell m.shape h 0 m.shape.width)) R.made ∙ e in
      let n : length vs ≡ m.shape.width = ap length (sym e) ∙ held_length (run a ws) (whole_fit i) in
      rw q (by_go_live (by_poke_part R (rw n (whole_fit j))) j)

  pub erase_run : {r : ℕ} → In m.shape r → Ran a (erase_writes m r ws) (erase m b r)
  unfolding erase
  erase_run h = by_go_unused (by_blank R (whole_fit h)) h

  pub new_last_run : {r : ℕ} (y : Head) → r ≤ m.shape.cap → Ran a (new_last_writes m r y ws) (new_last m b r y)
  unfolding new_last
  new_last_run y h = by_if R (eqb y.fore 0) (by_synonym_back R (synonym_near M h))

  -- heads and entry of record f of the area c, copied into record r
  pub copy_run : {r f : ℕ} (c : Area) → length c ≡ size → In m.shape r → In m.shape f
      → Ran a (copy_writes m r c f ws) (poke_part m.shape b r 5 (peek_part m.shape c f 5 (m.shape.width - 5)))
  copy_run {r} {f} c l h i =
      let w : 5 + (m.shape.width - 5) ≤ m.shape.width = omega (arith, M.front, M.sane.filled) in
      rw (peek_part_held c {s = m.shape} {r = f} {i = 5} {n = m.shape.width - 5} M.sane l record { row = i; wide = w })
      (by_poke_part R record { row = h; wide = rw (held_length c {s = m.shape} {r = f} {i = 5} {n = m.shape.width - 5} record { row = i; wide = w }) w })

-- ---- detail steps

-- the head's first and last, each only where a test says so
abbrev pub ends_writes : Path → ℕ → Bool → ℕ → Bool → ℕ → List Write → List Write
ends_writes p k is-first first is_last last ws =
    put p.to.shape (cond is-first k 0) (p.head + 3) (two first)
    ∷ put p.to.shape (cond is_last k 0) (p.head + 1) (two last)
    ∷ ws

abbrev pub link_in_writes : Shape → Path → ℕ → Head → ℕ → Spot → List Write → List Write
link_in_writes d p k h r t ws =
    put d r (p.links + 2) (two t.ahead)
    ∷ put d r p.links (two t.behind)
    ∷ ends_writes p k (eqb t.behind 0) r (eqb t.ahead 0) r (
    put p.to.shape k p.head (one (h.count + 1))
    ∷ put d t.ahead p.links (two r)
    ∷ put d t.behind (p.links + 2) (two r)
    ∷ ws)

abbrev pub link_out_writes : Shape → Path → ℕ → Head → Links → List Write → List Write
link_out_writes d p k h l ws =
    ends_writes p k (eqb l.back 0) l.fore (eqb l.fore 0) l.back (
    put p.to.shape k p.head (one (h.count - 1))
    ∷ put d l.fore p.links (two l.back)
    ∷ put d l.back (p.links + 2) (two l.fore)
    ∷ ws)

abbrev pub settle_writes : Shape → Taken → List ℕ → List Write → List Write
settle_writes d t entry ws = turn d t.at true ∷ put d t.at d.front (many entry) ∷ note d 1 t.freed ∷ note d 0 t.mark ∷ ws

abbrev pub free_writes : Shape → ℕ → ℕ → List Write → List Write
free_writes d r next ws = turn d r false ∷ note d 1 r ∷ put d r 0 (one next) ∷ put d r 0 (many (replicate d.width 0)) ∷ ws

module _ {size : ℕ} {d : Shape} {p : Path} (S : Sane size d) (P : PathOk size d p) {a b : Area} {ws : List Write} (R : Ran a ws b) where
  pub new_ends_run : {k r : ℕ} (t : Spot) → In p.to.shape k → Ran a (ends_writes p k (eqb t.behind 0) r (eqb t.ahead 0) r ws) (new_ends p b k r t)
  unfolding new_ends
  new_ends_run t h = let L = by_if R (eqb t.ahead 0) (by_set_last R (head_fit S P h)) in by_if L (eqb t.behind 0) (by_set_first L (head_fit S P h))

  pub old_ends_run : {k : ℕ} (l : Links) → In p.to.shape k → Ran a (ends_writes p k (eqb l.back 0) l.fore (eqb l.fore 0) l.back ws) (old_ends p b k l)
  unfolding old_ends
  old_ends_run l h = let L = by_if R (eqb l.fore 0) (by_set_last R (head_fit S P h)) in by_if L (eqb l.back 0) (by_set_first L (head_fit S P h))

module _ {size : ℕ} {d : Shape} {p : Path} (S : Sane size d) (P : PathOk size d p) {a b : Area} {ws : List Write} (R : Ran a ws b) where
  pub link_in_run : {k r : ℕ} (h : Head) (t : Spot) → In p.to.shape k → In d r → t.behind ≤ d.cap → t.ahead ≤ d.cap → Ran a (link_in_writes d p k h r t ws) (link_in d p b k h r t)
  unfolding link_in link_neighbours link_own
  link_in_run h t k r x y =
      by_mend_fore (by_mend_back (new_ends_run S P (by_head_count (by_mend_back (by_mend_fore R (links_near S P x)) (links_near S P y)) (head_fit S P k)) t k)
      (links_near S P r.high)) (links_near S P r.high)

  pub link_out_run : {k : ℕ} (h : Head) (l : Links) → In p.to.shape k → l.back ≤ d.cap → l.fore ≤ d.cap → Ran a (link_out_writes d p k h l ws) (link_out d p b k h l)
  unfolding link_out unlink_neighbours
  link_out_run h l k x y = old_ends_run S P (by_head_count (by_mend_back (by_mend_fore R (links_near S P x)) (links_near S P y)) (head_fit S P k)) l k

module _ {size : ℕ} {d : Shape} (S : Sane size d) {a b : Area} {ws : List Write} (R : Ran a ws b) where
  pub settle_run : (t : Taken) {entry : List ℕ} → In d t.at → length entry ≡ d.entry → Ran a (settle_writes d t entry ws) (settle d b t entry)
  unfolding settle
  settle_run t h l = by_go_live (by_put_entry (by_set_freed (by_set_mark R)) S h l) h

  pub free_record_run : {r next : ℕ} → In d r → Ran a (free_writes d r next ws) (free_record d b r next)
  unfolding free_record
  free_record_run h = by_go_unused (by_set_freed (by_next_freed (by_blank R (whole_fit h)) (first_fit S h))) h
