-- What a step on one path of a detail leaves: it writes links of that path in lines, and that path's head in one record of the master. So every other path, the
-- entries, the maps, the leading words, the synonym words and the unused records stand as they were.
use Rattle.std.specs.Prelude.{◌≡◌, refl, ◌≢◌, ◌⊎◌, List, Bool, true, false, cond, ℕ, ◌+◌, ◌*◌, ◌≤◌, length}
use Rattle.std.proofs.Common.{sym, ◌∙◌, true≢false, arith}
use Rattle.std.proofs.Math.Path.{ap, subst}
use Rattle.std.proofs.Math.Logic.{inl, inr, dite}
use Rattle.std.proofs.Math.Decide.{dec_lt}
use Rattle.spec.specs.declared.Shape.{Shape}
use Rattle.spec.specs.declared.Path.{Path}
use Rattle.spec.specs.Words.{same}
use Rattle.spec.specs.Area.{Area}
use Rattle.spec.specs.Master.{address}
use Rattle.spec.specs.Root.{root_good}
use Rattle.spec.specs.Layout.{shape_of, path_of, master_of, detail_of}
use Rattle.history.specs.Chain.{All, all_map}
use Rattle.history.specs.Layout.{Clear, num}
use Rattle.history.specs.Runs.{clear_within}
use Rattle.history.specs.PathInv.{PInv, inv_keys}
use Rattle.history.specs.Synonym.{Inv}
use Rattle.history.specs.MasterKeys.{is_at, rec_of, found, seen, Carried, key_step}
use Rattle.history.specs.Shapes.{Sane, Beside, beside_sym, In, Fit}
use Rattle.history.specs.Spots.{Spot, set_of, held, val, alive, lead, flag, cell}
use Rattle.history.specs.Writes.{Value, say, Write, target, put}
use Rattle.history.specs.Apart.{Misses, by_set, by_kind, by_record, by_zero, by_place, Kept}
use Rattle.history.specs.Shown.{Gives}
use Rattle.history.specs.Writers.{Ran, ran_length, ran_held, ran_val, ran_alive, ran_kept}
use Rattle.history.specs.Good.{Set, Way, DetailSet, WayFacts, way_facts}
use Rattle.history.specs.Sets.{PathOk, detail_ok, links_apart, heads_apart, beside, detail_beside}
use Rattle.history.specs.Steps.{head_fit, links_fit}
use Rattle.history.specs.Stores.{entries, heads, fores, backs, kept_held, kept_lead, kept_alive, heads_kept, fores_kept, backs_kept, entries_kept, same_keys}
use Rattle.history.specs.PathLines.{PLine, line_record, line_key, line_at, above, path_order, sought, pstore, On, Tied, Tie, PathInv, Link, Where, elsewhere}

-- ---- what is left

-- a detail's leading words, map and unused records, but for record r
pub record Still (d : Shape) (r : ℕ) (a b : Area) : Type 0 where
  pub leads : (i : ℕ) → val b (lead d i) ≡ val a (lead d i)
  pub map : (j : ℕ) → alive b d j ≡ alive a d j
  pub unused : (j i n : ℕ) → alive a d j ≡ false → j ≢ r → held b (cell d j i n) ≡ held a (cell d j i n)

pub still_self : {d : Shape} {r : ℕ} (a : Area) → Still d r a a
still_self a = record { leads = λ i. refl; map = λ j. refl; unused = λ j i n e z. refl }

pub still_then : {d : Shape} {r : ℕ} {a b c : Area} → Still d r a b → Still d r b c → Still d r a c
still_then A B = record {
  leads = λ i. B.leads i ∙ A.leads i;
  map = λ j. B.map j ∙ A.map j;
  unused = λ j i n e z. B.unused j i n (A.map j ∙ e) z ∙ A.unused j i n e z;
}

pub still_kept : {d : Shape} {r : ℕ} {a b : Area} → Kept d a b → Still d r a b
still_kept K = record { leads = kept_lead K; map = kept_alive K; unused = λ j i n e z. kept_held K j i n }

-- after a step on path p of the detail d, for line r, with the head in record k of the master
pub record Frame (d : Shape) (p : Path) (k r : ℕ) (a b : Area) : Type 0 where
  pub size : length b ≡ length a
  -- other sets
  pub sets : (t : Shape) → Beside d t → Beside p.to.shape t → Kept t a b
  -- the detail: all but links of this path in lines and in record r
  pub still : Still d r a b
  pub places : (j i n : ℕ) → Clear p.links 4 i n → held b (cell d j i n) ≡ held a (cell d j i n)
  -- the master: all but this path's head in record k
  pub to_leads : (i : ℕ) → val b (lead p.to.shape i) ≡ val a (lead p.to.shape i)
  pub to_map : (j : ℕ) → alive b p.to.shape j ≡ alive a p.to.shape j
  pub to_places : (j i n : ℕ) → Clear p.head 5 i n → held b (cell p.to.shape j i n) ≡ held a (cell p.to.shape j i n)
  pub to_records : (j i n : ℕ) → j ≢ k → held b (cell p.to.shape j i n) ≡ held a (cell p.to.shape j i n)

-- ---- why: each write is the path's own

-- a link of the path in nobody, in a live line or in r; a part of its head in nobody or in k
pub data Own (d : Shape) (p : Path) (k r : ℕ) (a : Area) (w : Write) : Type 0 where
  own_link : (j i : ℕ) (u : Value) → w ≡ put d j i u → p.links ≤ i → i + length (say u) ≤ p.links + 4 → Link a d j ⊎ (j ≡ r) → Own d p k r a w
  own_head : (j i : ℕ) (u : Value) → w ≡ put p.to.shape j i u → p.head ≤ i → i + length (say u) ≤ p.head + 5 → (j ≡ 0) ⊎ (j ≡ k) → Own d p k r a w

module _ {size : ℕ} {d : Shape} {p : Path} (S : Sane size d) (P : PathOk size d p) (k r : ℕ) {a b : Area} {ws : List Write} (R : Ran a ws b) (O : All (Own d p k r a) ws) where
  -- a spot that neither such a link nor such a part of a head touches
  missed : (x : Spot)
      → ((j i : ℕ) (u : Value) → p.links ≤ i → i + length (say u) ≤ p.links + 4 → Link a d j ⊎ (j ≡ r) → Misses (put d j i u) x)
      → ((j i : ℕ) (u : Value) → p.head ≤ i → i + length (say u) ≤ p.head + 5 → (j ≡ 0) ⊎ (j ≡ k) → Misses (put p.to.shape j i u) x)
      → All (λ w. Misses w x) ws
  missed x f g = all_map ws go O
    where
      go : (w : Write) → Own d p k r a w → Misses w x
      go w (own_link j i u e lo hi t) = subst (λ v. Misses v x) (sym e) (f j i u lo hi t)
      go w (own_head j i u e lo hi t) = subst (λ v. Misses v x) (sym e) (g j i u lo hi t)

  -- a spot of the detail, or of the master, by why the links, or the parts of the head, miss it
  in_detail : (x : Spot) → set_of x ≡ d → ((j i : ℕ) (u : Value) → p.links ≤ i → i + length (say u) ≤ p.links + 4 → Link a d j ⊎ (j ≡ r) → Misses (put d j i u) x) → All (λ w. Misses w x) ws
  in_detail x e f = missed x f (λ j i u _ _ _. by_set (subst (Beside p.to.shape) (sym e) (beside_sym P.beside)))

  in_master : (x : Spot) → set_of x ≡ p.to.shape → ((j i : ℕ) (u : Value) → p.head ≤ i → i + length (say u) ≤ p.head + 5 → (j ≡ 0) ⊎ (j ≡ k) → Misses (put p.to.shape j i u) x) → All (λ w. Misses w x) ws
  in_master x e g = missed x (λ j i u _ _ _. by_set (subst (Beside d) (sym e) P.beside)) g

  pub frame_of : Frame d p k r a b
  frame_of = record {
    size = ran_length R;
    sets = λ t B C. ran_kept R t (all_map ws (λ w o. away t B C w o) O);
    still = record {
      leads = λ i. ran_val R _ (in_detail (lead d i) refl (λ j i u _ _ _. by_kind S refl tt));
      map = λ j. ran_alive R d j (in_detail (flag d j) refl (λ j i u _ _ _. by_kind S refl tt));
      unused = λ j i n e z. ran_held R _ (in_detail (cell d j i n) refl (λ q _ u _ _ t. by_row j q e z t));
    };
    places = λ j i n c. ran_held R _ (in_detail (cell d j i n) refl (λ _ q u lo hi _. by_place (clear_within p.links 4 i n q (length (say u)) i n c lo hi (omega arith) (omega arith))));
    to_leads = λ i. ran_val R _ (in_master (lead p.to.shape i) refl (λ j i u _ _ _. by_kind P.to.sane refl tt));
    to_map = λ j. ran_alive R p.to.shape j (in_master (flag p.to.shape j) refl (λ j i u _ _ _. by_kind P.to.sane refl tt));
    to_places = λ j i n c. ran_held R _ (in_master (cell p.to.shape j i n) refl (λ _ q u lo hi _. by_place (clear_within p.head 5 i n q (length (say u)) i n c lo hi (omega arith) (omega arith))));
    to_records = λ j i n z. ran_held R _ (in_master (cell p.to.shape j i n) refl (λ q _ u _ _ t. by_head j q z t));
  }
    where
      away : (t : Shape) → Beside d t → Beside p.to.shape t → (w : Write) → Own d p k r a w → Beside (set_of (target w)) t
      away t B C w (own_link j i u e _ _ _) = subst (λ v. Beside (set_of (target v)) t) (sym e) B
      away t B C w (own_head j i u e _ _ _) = subst (λ v. Beside (set_of (target v)) t) (sym e) C

      by_row : (j q : ℕ) {i m n : ℕ} {u : Value} → alive a d j ≡ false → j ≢ r → Link a d q ⊎ (q ≡ r) → Misses (put d q m u) (cell d j i n)
      by_row j q e z (inl (inl o)) = by_zero o
      by_row j q e z (inl (inr l)) = by_record (λ y. true≢false (sym l ∙ ap (alive a d) (sym y) ∙ e))
      by_row j q e z (inr y) = by_record (λ o. z (o ∙ y))

      by_head : (j q : ℕ) {i m n : ℕ} {u : Value} → j ≢ k → (q ≡ 0) ⊎ (q ≡ k) → Misses (put p.to.shape q m u) (cell p.to.shape j i n)
      by_head j q z (inl o) = by_zero o
      by_head j q z (inr y) = by_record (λ o. z (o ∙ y))

-- a part of the head, a part of the links
module _ {size : ℕ} {d : Shape} {p : Path} (S : Sane size d) (P : PathOk size d p) where
  pub head_words : {k i n : ℕ} → In p.to.shape k → i + n ≤ p.head + 5 → Fit p.to.shape k i n
  head_words K h = record { row = K; wide = omega (arith, (head_fit S P K).wide) }

  pub link_words : {j i n : ℕ} → In d j → i + n ≤ p.links + 4 → Fit d j i n
  link_words R h = record { row = R; wide = omega (arith, (links_fit S P R).wide) }

-- a write that is made only if a test holds shows what it gives where the test holds
pub gives_if : {size : ℕ} {s : Shape} {j i : ℕ} {u : Value} {x : Spot} {vs : List ℕ} (t : Bool) → t ≡ true → Gives size (put s j i u) x vs → Gives size (put s (cond t j 0) i u) x vs
gives_if {size} {s} {j} {i} {u} {x} {vs} t e g = subst (λ t. Gives size (put s (cond t j 0) i u) x vs) (sym e) g

-- and it is to that record or to nobody
pub cond_or : (t : Bool) (k : ℕ) → (cond t k 0 ≡ 0) ⊎ (cond t k 0 ≡ k)
cond_or true k = inr refl
cond_or false k = inl refl

-- ---- what that keeps

-- two paths that share neither links nor heads: q of the detail e stands while path p of d is worked on
abbrev pub LinksApart : Shape → Path → Shape → Path → Type 0
LinksApart d p e q = Beside d e ⊎ ((d ≡ e) × Clear p.links 4 q.links 4)

abbrev pub HeadsApart : Path → Path → Type 0
HeadsApart p q = Beside p.to.shape q.to.shape ⊎ ((p.to ≡ q.to) × Clear p.head 5 q.head 5)

pub record PathsApart (d : Shape) (p : Path) (e : Shape) (q : Path) : Type 0 where
  pub cross : Beside d q.to.shape
  pub crossed : Beside p.to.shape e
  pub links : LinksApart d p e q
  pub heads : HeadsApart p q

-- the state of a path, from its four parts
pub pstore_same : (d : Shape) (p : Path) (a b : Area) → entries p.to b ≡ entries p.to a → heads p.to.shape p.head b ≡ heads p.to.shape p.head a
    → fores d p.links b ≡ fores d p.links a → backs d p.links b ≡ backs d p.links a → pstore d p b ≡ pstore d p a
unfolding pstore
pstore_same d p a b e h f g = λ i. seen (address p.to) same same_keys p.to.shape.cap (e i) (h i) (f i) (g i)

pub pstore_kept : (d : Shape) (p : Path) {a b : Area} → Kept d a b → Kept p.to.shape a b → pstore d p b ≡ pstore d p a
pstore_kept d p {a} {b} K M = pstore_same d p a b (entries_kept p.to M) (heads_kept M p.head) (fores_kept K p.links) (backs_kept K p.links)

pub on_same : {d : Shape} {p : Path} {a b : Area} {xs : List PLine} → pstore d p b ≡ pstore d p a → On d p a xs → On d p b xs
on_same {p = p} {xs = xs} e I = record { inv = subst (λ S. PInv line_record line_key same (above p) S xs) (sym e) I.inv }

module _ {size : ℕ} {d : Shape} {p : Path} (S : Sane size d) (P : PathOk size d p) {k r : ℕ} {a b : Area} (F : Frame d p k r a b) where
  -- the words of entries
  pub frame_entry : (j i n : ℕ) → d.front ≤ i → held b (cell d j i n) ≡ held a (cell d j i n)
  frame_entry j i n h = F.places j i n (inl (omega (arith, P.links_in)))

  -- the master's entries and synonym words
  pub frame_entries : entries p.to b ≡ entries p.to a
  unfolding entries
  frame_entries =
      let s = p.to.shape in
      let low : 5 ≤ p.head = omega (arith, P.head_at) in
      let high : p.head + 5 ≤ s.front = omega (arith, P.head_at, P.slot_in, P.to.front) in
      λ i. record {
        live = λ j. F.to_map j i;
        key = λ j. F.to_places j (s.front + p.to.key.at) p.to.key.size (inl (omega arith)) i;
        cnt = λ j. num (F.to_places j 0 1 (inr (omega arith)) i);
        bk = λ j. num (F.to_places j 1 2 (inr (omega arith)) i);
        nx = λ j. num (F.to_places j 3 2 (inr (omega arith)) i);
      }

  -- the head of another slot of the master
  pub frame_slot : (q : ℕ) → q ≢ P.slot → (j i n : ℕ) → 5 + 5 * q ≤ i → i + n ≤ 10 + 5 * q → held b (cell p.to.shape j i n) ≡ held a (cell p.to.shape j i n)
  frame_slot q z j i n lo hi = F.to_places j i n (dite (dec_lt q P.slot) (λ h. inr (omega (arith, P.head_at))) (λ h. inl (omega (arith, P.head_at))))

  -- a key stands where it stood
  pub frame_where : {key : List ℕ} {i : ℕ} → Where p a key i → Where p b key i
  frame_where {key} W = record { at_record = ap (λ E. found (address p.to) same same_keys p.to.shape.cap E key) frame_entries ∙ W.at_record; live = F.to_map _ ∙ W.live }

  -- the path's own keys, and the heads of those that are not at k
  pub frame_present : (key : List ℕ) → (pstore d p b).present key ≡ (pstore d p a).present key
  unfolding pstore seen
  frame_present key = ap (λ E. is_at (found (address p.to) same same_keys p.to.shape.cap E key)) frame_entries

  pub frame_heads : {key : List ℕ} → Where p a key k → (key' : List ℕ) → key' ≢ key
      → ((pstore d p b).cnt key' ≡ (pstore d p a).cnt key') × ((pstore d p b).first key' ≡ (pstore d p a).first key') × ((pstore d p b).last key' ≡ (pstore d p a).last key')
  unfolding pstore seen heads
  frame_heads {key} W key' z = (on p.head 1, on (p.head + 3) 2, on (p.head + 1) 2)
    where
      on : (i n : ℕ) → val b (cell p.to.shape (rec_of (sought p.to b key')) i n) ≡ val a (cell p.to.shape (rec_of (sought p.to a key')) i n)
      on i n = ap (λ E. val b (cell p.to.shape (rec_of (found (address p.to) same same_keys p.to.shape.cap E key')) i n)) frame_entries ∙ ap num (F.to_records _ i n (elsewhere W key' z))

  -- the other paths
  pub frame_other : {e : Shape} {q : Path} → PathsApart d p e q → pstore e q b ≡ pstore e q a
  unfolding heads
  frame_other {e} {q} A = pstore_same e q a b (entry_part A.heads) (head_part A.heads) (fore_part A.links) (back_part A.links)
    where
      entry_part : HeadsApart p q → entries q.to b ≡ entries q.to a
      entry_part (inl B) = entries_kept q.to (F.sets q.to.shape A.cross B)
      entry_part (inr h) = subst (λ m. entries m b ≡ entries m a) h.0 frame_entries

      head_part : HeadsApart p q → heads q.to.shape q.head b ≡ heads q.to.shape q.head a
      head_part (inl B) = heads_kept (F.sets q.to.shape A.cross B) q.head
      head_part (inr h) = subst (λ m. heads m.shape q.head b ≡ heads m.shape q.head a) h.0 (λ i. record {
        cnt = λ j. num (F.to_places j q.head 1 (part q.head 1 h.1 (omega arith) (omega arith)) i);
        first = λ j. num (F.to_places j (q.head + 3) 2 (part (q.head + 3) 2 h.1 (omega arith) (omega arith)) i);
        last = λ j. num (F.to_places j (q.head + 1) 2 (part (q.head + 1) 2 h.1 (omega arith) (omega arith)) i);
      })
        where
          part : (i n : ℕ) → Clear p.head 5 q.head 5 → q.head ≤ i → i + n ≤ q.head + 5 → Clear p.head 5 i n
          part i n c lo hi = clear_within p.head 5 q.head 5 p.head 5 i n c (omega arith) (omega arith) lo hi

      link_part : (i : ℕ) → q.links ≤ i → i + 2 ≤ q.links + 4 → (d ≡ e) × Clear p.links 4 q.links 4 → (j : ℕ) → val b (cell e j i 2) ≡ val a (cell e j i 2)
      link_part i lo hi h j = subst (λ t. val b (cell t j i 2) ≡ val a (cell t j i 2)) h.0 (ap num (F.places j i 2 (clear_within p.links 4 q.links 4 p.links 4 i 2 h.1 (omega arith) (omega arith) lo hi)))

      fore_part : LinksApart d p e q → fores e q.links b ≡ fores e q.links a
      fore_part (inl B) = fores_kept (F.sets e B A.crossed) q.links
      fore_part (inr h) = λ i j. link_part (q.links + 2) (omega arith) (omega arith) h j i

      back_part : LinksApart d p e q → backs e q.links b ≡ backs e q.links a
      back_part (inl B) = backs_kept (F.sets e B A.crossed) q.links
      back_part (inr h) = λ i j. link_part q.links (omega arith) (omega arith) h j i

-- lines and area stay tied where the map and the words of entries stand
pub tie_same : {d : Shape} {q : Path} {a b : Area} {xs : List PLine} → ((j : ℕ) → alive b d j ≡ alive a d j)
    → ((j i n : ℕ) → d.front ≤ i → held b (cell d j i n) ≡ held a (cell d j i n)) → Tie d q a xs → Tie d q b xs
unfolding line_at
tie_same {d = d} {q = q} {a = a} {b = b} {xs = xs} m h T = record {
  each = all_map xs (λ y (t : Tied d q a y). record {
    live = m y.rec ∙ t.live;
    shows = t.shows ∙ (λ i. record { rec = y.rec; key = sym (h y.rec (d.front + q.search.at) q.search.size (omega arith)) i; sort = sym (h y.rec (d.front + q.sort.at) q.sort.size (omega arith)) i });
  }) T.each;
  every = λ r e. T.every r (sym (m r) ∙ e);
}

pub tie_kept : {d : Shape} {q : Path} {a b : Area} {xs : List PLine} → Kept d a b → Tie d q a xs → Tie d q b xs
tie_kept K T = tie_same (kept_alive K) (λ j i n h. kept_held K j i n) T

-- a step on one path leaves the ties of all paths of its detail, and a path that is apart from it altogether
module _ {size : ℕ} {d : Shape} {p : Path} (S : Sane size d) (P : PathOk size d p) {k r : ℕ} {a b : Area} (F : Frame d p k r a b) where
  pub frame_tie : {q : Path} {xs : List PLine} → Tie d q a xs → Tie d q b xs
  frame_tie T = tie_same F.still.map (frame_entry S P F) T

  module _ {e : Shape} {q : Path} (A : PathsApart d p e q) {xs : List PLine} where
    pub apart_on : On e q a xs → On e q b xs
    apart_on I = on_same (frame_other S P F A) I

    pub apart_tie : Tie e q a xs → Tie e q b xs
    apart_tie T = go A.links
      where
        go : LinksApart d p e q → Tie e q b xs
        go (inl B) = tie_kept (F.sets e B A.crossed) T
        go (inr h) = subst (λ s. Tie s q a xs → Tie s q b xs) h.0 frame_tie T

-- a path of which no set was written
pub kept_on : {d : Shape} {p : Path} {a b : Area} {xs : List PLine} → Kept d a b → Kept p.to.shape a b → On d p a xs → On d p b xs
kept_on {d} {p} K M I = on_same (pstore_kept d p K M) I

pub kept_path : {d : Shape} {p : Path} {a b : Area} {xs : List PLine} → Kept d a b → Kept p.to.shape a b → PathInv d p a xs → PathInv d p b xs
kept_path K M I = record { on = kept_on K M I.on; tie = tie_kept K I.tie }

-- a step of the master that carries entries with their heads
pub on_carried : {d : Shape} {p : Path} {a b : Area} {xs : List PLine} {syn syn' : ℕ → List ℕ} → Kept d a b
    → Inv (address p.to) p.to.shape.cap (entries p.to a) syn → Inv (address p.to) p.to.shape.cap (entries p.to b) syn'
    → Carried (address p.to) same same_keys p.to.shape.cap (entries p.to a) (entries p.to b) (heads p.to.shape p.head a) (heads p.to.shape p.head b)
    → On d p a xs → On d p b xs
unfolding pstore
on_carried {d} {p} {a} {b} {xs} {syn} {syn'} K Y Y' C I =
    let m = p.to in
    let St = entries m in
    let H = heads m.shape p.head in
    let I' = inv_keys line_record line_key same (above p) same_keys (path_order p) _ _ xs I.inv
    (key_step (address m) same same_keys m.shape.cap line_record line_key (above p) (path_order p) (St a) (St b) syn syn' (H a) (H b) (fores d p.links a) (backs d p.links a) xs Y Y' I.inv C) in
    record {
      inv = subst (λ f. PInv line_record line_key same (above p) (seen (address m) same same_keys m.shape.cap (St b) (H b) f (backs d p.links b)) xs) (sym (fores_kept K p.links))
          (subst (λ g. PInv line_record line_key same (above p) (seen (address m) same same_keys m.shape.cap (St b) (H b) (fores d p.links a) g) xs) (sym (backs_kept K p.links)) I');
    }

-- ---- the paths of a good root

module _ (root : List ℕ) (g : root_good root ≡ true) where
  -- two paths of one detail, and paths of two details
  pub paths_apart : (s p t q : ℕ) → Set root s → Set root t → DetailSet root s → DetailSet root t → Way root s p → Way root t q → ((s ≡ t) × (p ≢ q)) ⊎ (s ≢ t)
      → PathsApart (shape_of root s) (path_of root s p) (shape_of root t) (path_of root t q)
  unfolding path_of detail_of master_of
  paths_apart s p t q S T D E h k n =
      let U : WayFacts root s p = way_facts root g s p S D h in
      let W : WayFacts root t q = way_facts root g t q T E k in
      record {
        cross = detail_beside root g s _ S W.to D W.to_master;
        crossed = beside_sym (detail_beside root g t _ T U.to E U.to_master);
        links = go n;
        heads = heads_apart root g s p t q S T D E h k (two n);
      }
    where
      two : ((s ≡ t) × (p ≢ q)) ⊎ (s ≢ t) → (s ≢ t) ⊎ (p ≢ q)
      two (inl h) = inr h.1
      two (inr d) = inl d

      go : ((s ≡ t) × (p ≢ q)) ⊎ (s ≢ t) → LinksApart (shape_of root s) (path_of root s p) (shape_of root t) (path_of root t q)
      go (inl e) = inr (ap (shape_of root) e.0, links_apart (detail_ok root g s S D) p q h.low k.low e.1)
      go (inr d) = inl (beside root g s t S T d)
