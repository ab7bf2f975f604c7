-- Laws of the C interface: what is found in lent words of the right lengths, and of others. Assumes nothing.
use Rattle.std.proofs.Common.{◌≡◌, ◌≢◌, ℕ, ◌*◌, ◌/◌, ◌≤◌, ◌<◌, Bool, true, false, cond, ◌&&◌, refl, List, [], length, sym, ◌∙◌, ap, arith}
use borrow.Author.Tests.{eq-eqb, ne_eqb, lt-ltb, le-ltb, le-leb, lt-leb}
use Rattle.std.proofs.lemmas.Bool.Decides.{nat_tests}
use Rattle.spec.specs.declared.Cursor.{Cursor}
use Rattle.spec.specs.Area.{Area}
use Rattle.spec.specs.Calls.{make, find, get, put, update, delete}
use Rattle.lent.specs.Lent.{cursors_of, session_words, packed, unpacked}
use Rattle.maltorhu.specs.Interface.{Left, Turned, made, worked, kept, right, right_passed, make_lent, find_lent, get_lent, put_lent, update_lent, delete_lent, pack_lent, unpack_lent}

-- ---- words of the right lengths
pub right_lengths : (cursors status : List ℕ) → right cursors status ≡ true → (length cursors ≡ 64) × (length status ≡ 10)
unfolding right
right_lengths cursors status e = grind (arith, nat_tests)

-- ---- a call is worked, or leaves all as it was
none_worked : (b : Bool) (x k : Left) → cond (b && false) x k ≡ k
none_worked true x k = refl
none_worked false x k = refl

module _ (root : List ℕ) (a : Area) (status : List ℕ) where
  pub make_told : length status ≡ 10 → make_lent root a status ≡ made (make root a)
  unfolding make_lent
  make_told p = rw (eq-eqb (length status) 10 p)

  pub make_untold : length status ≢ 10 → make_lent root a status ≡ kept a [] [] status []
  unfolding make_lent
  make_untold p = rw (ne_eqb (length status) 10 p)

module _ (root : List ℕ) (a : Area) (cursors : List ℕ) (s item : ℕ) (key status : List ℕ) where
  pub find_told : right cursors status ≡ true → find_lent root a cursors s item key status ≡ worked (find root a (cursors_of cursors) s item key)
  unfolding find_lent
  find_told e = rw e

  pub find_untold : right cursors status ≡ false → find_lent root a cursors s item key status ≡ kept a cursors [] status []
  unfolding find_lent
  find_untold e = rw e

  -- worked by a set t and an item i, which are those that were asked for
  pub find_cursors :
      (cs : List Cursor) (t i : ℕ) (o : List Cursor) (ws : List ℕ) → right cursors status ≡ true → cs ≡ cursors_of cursors → t ≡ s → i ≡ item →
      o ≡ (find root a cs t i key).cursors → ws ≡ session_words o → ws ≡ (find_lent root a cursors s item key status).cursors
  find_cursors cs t i o ws e f g h p q = q ∙ ap session_words (rw (f, g, h) at p) ∙ sym (ap (λ (x : Left). x.cursors) (find_told e))

module _ (root : List ℕ) (a : Area) (cursors : List ℕ) (s mode r : ℕ) (key buffer status : List ℕ) where
  pub get_told : right cursors status ≡ true → get_lent root a cursors s mode r key buffer status ≡ worked (get root a (cursors_of cursors) s mode r key buffer)
  unfolding get_lent
  get_told e = rw e

  pub get_untold : right cursors status ≡ false → get_lent root a cursors s mode r key buffer status ≡ kept a cursors buffer status []
  unfolding get_lent
  get_untold e = rw e

  -- worked by a set t and a mode m, which are those that were asked for
  pub get_cursors :
      (cs : List Cursor) (t m : ℕ) (o : List Cursor) (ws : List ℕ) → right cursors status ≡ true → cs ≡ cursors_of cursors → t ≡ s → m ≡ mode →
      o ≡ (get root a cs t m r key buffer).cursors → ws ≡ session_words o → ws ≡ (get_lent root a cursors s mode r key buffer status).cursors
  get_cursors cs t m o ws e f g h p q = q ∙ ap session_words (rw (f, g, h) at p) ∙ sym (ap (λ (x : Left). x.cursors) (get_told e))

module _ (root : List ℕ) (a : Area) (cursors : List ℕ) (s : ℕ) (entry status passed : List ℕ) where
  pub put_told : right cursors status ≡ true → length passed ≡ 4 → put_lent root a cursors s entry status passed ≡ worked (put root a (cursors_of cursors) s entry)
  unfolding put_lent right_passed
  put_told e p = rw (e, eq-eqb (length passed) 4 p)

  pub put_untold : right cursors status ≡ false → put_lent root a cursors s entry status passed ≡ kept a cursors [] status passed
  unfolding put_lent right_passed
  put_untold e = rw e

  pub put_unpassed : length passed ≢ 4 → put_lent root a cursors s entry status passed ≡ kept a cursors [] status passed
  unfolding put_lent right_passed
  put_unpassed p = rw (ne_eqb (length passed) 4 p) (none_worked (right cursors status) _ _)

module _ (root : List ℕ) (a : Area) (cursors : List ℕ) (s : ℕ) (entry status : List ℕ) where
  pub update_told : right cursors status ≡ true → update_lent root a cursors s entry status ≡ worked (update root a (cursors_of cursors) s entry)
  unfolding update_lent
  update_told e = rw e

  pub update_untold : right cursors status ≡ false → update_lent root a cursors s entry status ≡ kept a cursors [] status []
  unfolding update_lent
  update_untold e = rw e

module _ (root : List ℕ) (a : Area) (cursors : List ℕ) (s : ℕ) (status : List ℕ) where
  pub delete_told : right cursors status ≡ true → delete_lent root a cursors s status ≡ worked (delete root a (cursors_of cursors) s)
  unfolding delete_lent
  delete_told e = rw e

  pub delete_untold : right cursors status ≡ false → delete_lent root a cursors s status ≡ kept a cursors [] status []
  unfolding delete_lent
  delete_untold e = rw e

-- ---- characters
module _ (text words : List ℕ) where
  module _ (p : length words < 2305843009213693952) where
    pack_told : pack_lent text words ≡ record { code = 0; result = packed (length words) text }
    unfolding pack_lent
    pack_told = rw (lt-ltb (length words) 2305843009213693952 p)

    pub pack_code : 0 ≡ (pack_lent text words).code
    pack_code = sym (ap (λ (t : Turned). t.code) pack_told)

    pub pack_result : (ws : List ℕ) → ws ≡ packed (length words) text → ws ≡ (pack_lent text words).result
    pack_result ws e = e ∙ sym (ap (λ (t : Turned). t.result) pack_told)

  module _ (p : 2305843009213693952 ≤ length words) where
    no_pack : pack_lent text words ≡ record { code = 1; result = words }
    unfolding pack_lent
    no_pack = rw (le-ltb (length words) 2305843009213693952 p)

    pub no_pack_code : 1 ≡ (pack_lent text words).code
    no_pack_code = sym (ap (λ (t : Turned). t.code) no_pack)

    pub no_pack_result : words ≡ (pack_lent text words).result
    no_pack_result = sym (ap (λ (t : Turned). t.result) no_pack)

module _ (words text : List ℕ) where
  module _ (p : length words ≤ length text / 2) where
    pub room : 2 * length words ≤ length text
    room = omega arith

    unpack_told : unpack_lent words text ≡ record { code = 0; result = unpacked words text }
    unfolding unpack_lent
    unpack_told = rw (le-leb (2 * length words) (length text) room)

    pub unpack_code : 0 ≡ (unpack_lent words text).code
    unpack_code = sym (ap (λ (t : Turned). t.code) unpack_told)

    pub unpack_result : (ws : List ℕ) → ws ≡ unpacked words text → ws ≡ (unpack_lent words text).result
    unpack_result ws e = e ∙ sym (ap (λ (t : Turned). t.result) unpack_told)

  module _ (p : length text / 2 < length words) where
    no_room : unpack_lent words text ≡ record { code = 1; result = text }
    unfolding unpack_lent
    no_room = let h : length text < 2 * length words = omega arith in rw (lt-leb (2 * length words) (length text) h)

    pub no_unpack_code : 1 ≡ (unpack_lent words text).code
    no_unpack_code = sym (ap (λ (t : Turned). t.code) no_room)

    pub no_unpack_result : text ≡ (unpack_lent words text).result
    no_unpack_result = sym (ap (λ (t : Turned). t.result) no_room)
