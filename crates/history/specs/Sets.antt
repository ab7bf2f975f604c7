-- What the steps know of a set of a good root, as facts: its shape in the area, beside the other sets' shapes; a master's key and heads; a detail's paths.
-- Nobody above this file needs the root's own words.
use Rattle.std.specs.Prelude.{◌≡◌, ◌≢◌, ◌⊎◌, List, true, false, ℕ, ◌+◌, ◌-◌, ◌*◌, ◌≤◌, ◌<◌, length}
use Rattle.std.proofs.Math.Path.{refl, ap, subst}
use Rattle.std.proofs.Common.{sym, ◌∙◌}
use Rattle.std.proofs.Math.Logic.{Ne-symm, inl, inr, dite}
use native.Mathlib.Omega.{arith}
use Rattle.std.proofs.Math.Decide.{ℕ_discrete, dec_lt}
use Rattle.std.proofs.Math.ListN.{get_or}
use borrow.Author.Tests.{eq-eqb, ne_eqb, ltb-true, ltb-false}
use Rattle.spec.specs.declared.Shape.{Shape}
use Rattle.spec.specs.declared.Master.{Master}
use Rattle.spec.specs.declared.Path.{Path}
use Rattle.spec.specs.Words.{total}
use Rattle.spec.specs.Root.{sets, capacity, key_item, path_count, path_master, path_search, path_sort, root_good}
use Rattle.spec.specs.Layout.{front_words, record_words, size_of, start_of, area_length, shape_of, field_of, no_field, sort_of, master_of, head_of, heads_of, path_of, Detail, detail_of}
use Rattle.history.specs.Layout.{Clear}
use Rattle.history.specs.Ranges.{Among, total_mono, total_at, total_up_to}
use Rattle.history.specs.Shapes.{Sane, Beside}
use Rattle.history.specs.Good.{Set, Way, Inside, Off, DetailSet, MasterSet, Sorted, item, WayFacts, detail_not_master, fields_off, set_facts, way_facts, searches_differ, leads_high, auto_one, auto_key}
use Rattle.history.specs.Heads.{slot, head_slot, slot_in, slot_inj, Owner, owner, heads_length, heads_cap}

-- ---- where the sets stand

module _ (root : List ℕ) (g : root_good root ≡ true) where
  pub sane : (s : ℕ) → Set root s → Sane (area_length root) (shape_of root s)
  unfolding shape_of start_of area_length
  sane s S =
      let F = set_facts root g s S in
      record {
        map_at = refl;
        records_at = refl;
        inside = ends (total_up_to (size_of root) (sets root) s S);
        filled = refl;
        some = F.some_words;
        cap_low = F.cap_low;
        cap_high = F.cap_high;
      }
    where
      ends : total (s - 1) (size_of root) + size_of root s ≤ total (sets root) (size_of root) → (shape_of root s).records + (shape_of root s).cap * (shape_of root s).width ≤ total (sets root) (size_of root)
      ends h = unfold size_of record_words in omega arith

  pub beside : (s t : ℕ) → Set root s → Set root t → s ≢ t → Beside (shape_of root s) (shape_of root t)
  beside s t S T d = record { size = area_length root; this = sane s S; that = sane t T; clear = dite (dec_lt s t) (λ l. inl (before s t S.low l)) (λ l. inr (before t s T.low (omega arith))) }
    where
      before : (x y : ℕ) → 1 ≤ x → x < y → (shape_of root x).records + (shape_of root x).cap * (shape_of root x).width ≤ (shape_of root y).start
      before x y h l = unfold shape_of start_of size_of record_words in omega (arith, total_at (size_of root) x h, total_mono x (y - 1) (size_of root) (omega arith))

-- ---- a master, a path, a detail

-- a master in an area of this size
pub record MasterOk (size : ℕ) (m : Master) : Type 0 where
  pub sane : Sane size m.shape
  pub front : m.shape.front ≡ 5 + 5 * m.leads
  pub leads : m.leads ≤ 8
  pub key : Inside m.shape.entry m.key
  pub auto_at : m.auto ≡ true → m.key.at ≡ 0
  pub auto_size : m.auto ≡ true → m.key.size ≡ m.shape.entry
  pub auto_leads : m.auto ≡ true → 1 ≤ m.leads

-- a path of a detail of shape d
pub record PathOk (size : ℕ) (d : Shape) (p : Path) : Type 0 where
  pub to : MasterOk size p.to
  pub beside : Beside d p.to.shape
  pub slot : ℕ
  pub head_at : p.head ≡ 5 + 5 * slot
  pub slot_in : slot < p.to.leads
  pub links_in : p.links + 4 ≤ d.front
  pub search : Inside d.entry p.search
  pub as_long : p.search.size ≡ p.to.key.size
  pub sort : p.sorted ≡ true → Inside d.entry p.sort
  pub sort_off : p.sorted ≡ true → Off p.search p.sort
  pub unsorted : p.sorted ≡ false → p.sort ≡ no_field

pub record DetailOk (size : ℕ) (d : Detail) : Type 0 where
  pub sane : Sane size d.shape
  pub front : d.shape.front ≡ 4 * d.paths
  pub few : d.paths ≤ 4
  pub path : (p : ℕ) → Among d.paths p → PathOk size d.shape (d.path p)
  pub links : (p : ℕ) → (d.path p).links ≡ 4 * (p - 1)
  pub heads : (p : ℕ) → Among d.paths p → length (d.heads p) ≡ (d.path p).to.leads
  pub cap : (p : ℕ) (h : Among d.paths p) → get_or (d.heads p) (path p h).slot 0 ≡ d.shape.cap
  pub searches : (p q : ℕ) → Among d.paths p → Among d.paths q → p ≢ q → Off (d.path p).search (d.path q).search

-- the links of two paths of one detail
pub links_apart : {size : ℕ} {d : Detail} (D : DetailOk size d) (p q : ℕ) → 1 ≤ p → 1 ≤ q → p ≢ q → Clear (d.path p).links 4 (d.path q).links 4
links_apart D p q h k n = dite (dec_lt p q) (λ l. inl (omega (arith, D.links p, D.links q))) (λ l. inr (omega (arith, D.links p, D.links q)))

module _ (root : List ℕ) (g : root_good root ≡ true) where
  pub master_ok : (s : ℕ) → Set root s → MasterSet root s → MasterOk (area_length root) (master_of root s)
  unfolding master_of shape_of front_words
  master_ok s S M = record {
    sane = sane root g s S;
    front = rw (M.not_detail, front_words);
    leads = leads_high root g s S M;
    key = (item root g s S (key_item root s) M.keyed).inside;
    auto_at = λ e. (auto_key root g s S M e).0;
    auto_size = λ e. (auto_key root g s S M e).1;
    auto_leads = λ e. (auto_one root g s S M e).1;
  }

  sort_field : (s p : ℕ) → path_sort root s p ≢ 0 → sort_of root s p ≡ field_of root s (path_sort root s p)
  unfolding sort_of
  sort_field s p n = rw (ne_eqb (path_sort root s p) 0 n, sort_of)

  no_sort : (s p : ℕ) → path_sort root s p ≡ 0 → sort_of root s p ≡ no_field
  unfolding sort_of
  no_sort s p e = rw (eq-eqb (path_sort root s p) 0 e, sort_of)

  pub detail_front : (s : ℕ) → DetailSet root s → (shape_of root s).front ≡ 4 * path_count root s
  unfolding shape_of front_words
  detail_front s D = rw (D.is_detail, front_words)

  pub path_ok : (s p : ℕ) → Set root s → DetailSet root s → Way root s p → PathOk (area_length root) (shape_of root s) (path_of root s p)
  unfolding path_of master_of field_of shape_of
  path_ok s p S D h = record {
    to = master_ok (path_master root s p) W.to W.to_master;
    beside = beside root g s (path_master root s p) S W.to (λ e. detail_not_master root s D (subst (MasterSet root) (sym e) W.to_master));
    slot = slot root s p;
    head_at = head_slot root s p;
    slot_in = slot_in root (path_master root s p) s p S h refl;
    links_in = omega (arith, detail_front s D, h.low, h.high);
    search = W.search.inside;
    as_long = W.as_long;
    sort = λ e. (sorted W.sorts (λ z. omega (arith, ltb-true 0 (path_sort root s p) e))).0;
    sort_off = λ e. (sorted W.sorts (λ z. omega (arith, ltb-true 0 (path_sort root s p) e))).1;
    unsorted = λ e. no_sort s p (omega (arith, ltb-false 0 (path_sort root s p) e));
  }
    where
      W : WayFacts root s p
      W = way_facts root g s p S D h

      sorted : (path_sort root s p ≡ 0) ⊎ Sorted root s p → path_sort root s p ≢ 0 → Inside (shape_of root s).entry (sort_of root s p) × Off (field_of root s (path_search root s p)) (sort_of root s p)
      sorted (inl z) n = absurd (n z)
      sorted (inr o) n = rw (sort_field s p n) (o.item.inside, fields_off root s _ _ W.search o.item (Ne-symm o.other))

  pub detail_ok : (s : ℕ) → Set root s → DetailSet root s → DetailOk (area_length root) (detail_of root s)
  unfolding detail_of path_of master_of
  detail_ok s S D = record {
    sane = sane root g s S;
    front = detail_front s D;
    few = D.paths;
    path = λ p h. path_ok s p S D h;
    links = λ p. refl;
    heads = λ p h. heads_length root (path_master root s p);
    cap = λ p h. unfold path_ok shape_of in heads_cap root (path_master root s p) s p S h refl;
    searches = λ p q h k d. fields_off root s _ _ (way_facts root g s p S D h).search (way_facts root g s q S D k).search (searches_differ root g s p q S D h k d);
  }

  -- two paths of the base: their heads are in different masters, or at different places of one
  pub heads_apart : (s p t q : ℕ) → Set root s → Set root t → DetailSet root s → DetailSet root t → Way root s p → Way root t q → (s ≢ t) ⊎ (p ≢ q)
      → Beside (path_of root s p).to.shape (path_of root t q).to.shape ⊎ (((path_of root s p).to ≡ (path_of root t q).to) × Clear (path_of root s p).head 5 (path_of root t q).head 5)
  unfolding path_of master_of
  heads_apart s p t q S T D E h k d = dite (ℕ_discrete (path_master root s p) (path_master root t q))
      (λ e. inr (ap (master_of root) e, clear e))
      (λ n. inl (beside root g _ _ (way_facts root g s p S D h).to (way_facts root g t q T E k).to n))
    where
      differ : path_master root s p ≡ path_master root t q → (s ≢ t) ⊎ (p ≢ q) → slot root s p ≢ slot root t q
      differ e (inl n) z = n (slot_inj root (path_master root t q) s p t q S T h k e refl z).0
      differ e (inr n) z = n (slot_inj root (path_master root t q) s p t q S T h k e refl z).1

      clear : path_master root s p ≡ path_master root t q → Clear (head_of root s p) 5 (head_of root t q) 5
      clear e = let n = differ e d in dite (dec_lt (slot root s p) (slot root t q)) (λ l. inl (omega (arith, head_slot root s p, head_slot root t q))) (λ l. inr (omega (arith, head_slot root s p, head_slot root t q)))

  -- a detail is beside every master, so beside the masters of all paths
  pub detail_beside : (s m : ℕ) → Set root s → Set root m → DetailSet root s → MasterSet root m → Beside (shape_of root s) (shape_of root m)
  detail_beside s m S M D N = beside root g s m S M (λ e. detail_not_master root s D (subst (MasterSet root) (sym e) N))

  -- the path that a head is of: whatever a master's record has in slot j, some path keeps it
  pub record Owned (m j : ℕ) : Type 0 where
    pub set : ℕ
    pub path : ℕ
    pub set_in : Set root set
    pub is_detail : DetailSet root set
    pub path_in : Way root set path
    pub leads : (path_of root set path).to ≡ master_of root m
    pub head : (path_of root set path).head ≡ 5 + 5 * j
    pub cap : get_or (heads_of root m) j 0 ≡ (shape_of root set).cap

  pub owned : (m j : ℕ) → j < (master_of root m).leads → Owned m j
  unfolding master_of path_of shape_of
  owned m j h = go (owner root m j h)
    where
      go : Owner root m j → Owned m j
      go o = record {
        set = o.set;
        path = o.path;
        set_in = o.set_in;
        is_detail = kind_is (set_facts root g o.set o.set_in).kinds;
        path_in = o.path_in;
        leads = ap (master_of root) o.leads;
        head = head_slot root o.set o.path ∙ ap (λ k. 5 + 5 * k) o.has;
        cap = subst (λ k. get_or (heads_of root m) k 0 ≡ capacity root o.set) o.has (heads_cap root m o.set o.path o.set_in o.path_in o.leads);
      }
        where
          kind_is : DetailSet root o.set ⊎ MasterSet root o.set → DetailSet root o.set
          kind_is (inl d) = d
          kind_is (inr n) = absurd (omega (arith, n.paths, o.path_in.low, o.path_in.high))
