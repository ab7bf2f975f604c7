-- Laws of a list that is filled from its start on: what is still to be laid over it from a place on makes it the whole.
-- Assumes nothing.
use Rattle.std.proofs.Common.{◌≡◌, ℕ, zero, suc, ◌+◌, ◌-◌, ◌*◌, ◌/◌, ◌%◌, ◌≤◌, ◌<◌, List, [], ◌∷◌, length, get_or, set, replicate, drop, refl, sym, ◌∙◌, ap, zero-add, add-one, append-nil, arith, drop_of_length-le, drop-cons}
use Rattle.std.proofs.Math.Nat.{sub-zero}
use Rattle.std.proofs.Math.Seq.{drop-length}
use Rattle.std.proofs.lemmas.List.Edits.{sets, sets-eq}
use Rattle.spec.specs.declared.Cursor.{Cursor}
use Rattle.spec.specs.Cursor.{fresh}
use Rattle.lent.specs.Lent.{cursor_at, cursors_from, cursors_of, cursor_words, session_from, session_words, packed_from, packed, characters, unpacked}

sets_whole : {A : Type 0} (l vs : List A) → length vs ≡ length l → sets l 0 vs ≡ vs
sets_whole l vs e = sets-eq vs l 0 (omega arith) ∙ rw (zero-add, e, drop-length l, append-nil vs)

-- ---- characters into words
length_packed : (text : List ℕ) (n i : ℕ) → length (packed_from text n i) ≡ n
unfolding packed_from
length_packed text zero i = refl
length_packed text (suc n) i = ap suc (length_packed text n (i + 1))

pub pack_start : (text words : List ℕ) → sets words 0 (packed_from text (length words - 0) 0) ≡ packed (length words) text
unfolding packed
pack_start text words = rw sub-zero (sets_whole words (packed_from text (length words) 0) (length_packed text (length words) 0))

module _ (text words : List ℕ) (n i : ℕ) where
  pub pack_more :
      i < n →
      sets words i (packed_from text (n - i) i)
      ≡ sets (set words i (get_or text (2 * i) 32 * 256 + get_or text (2 * i + 1) 32)) (i + 1) (packed_from text (n - (i + 1)) (i + 1))
  unfolding packed_from
  pack_more h = let s : n - i ≡ suc (n - (i + 1)) = omega arith in rw (s, add-one i)

  pub pack_end : n ≤ i → sets words i (packed_from text (n - i) i) ≡ words
  unfolding packed_from
  pack_end h = let z : n - i ≡ 0 = omega arith in rw z

-- ---- words into characters
length_characters : (ws : List ℕ) → length (characters ws) ≡ 2 * length ws
unfolding characters
length_characters [] = refl
length_characters (w ∷ ws) = ap suc (ap suc (length_characters ws)) ∙ omega arith

pub unpack_start : (ws text : List ℕ) → 2 * length ws ≤ length text → sets text (2 * 0) (characters (drop 0 ws)) ≡ unpacked ws text
unfolding unpacked
unpack_start ws text h =
    let l : length (characters ws) ≡ 2 * length ws = length_characters ws in
    sets-eq (characters ws) text 0 (omega arith) ∙ rw (zero-add, l)

module _ (ws text : List ℕ) (i : ℕ) where
  pub unpack_more :
      i < length ws →
      sets text (2 * i) (characters (drop i ws))
      ≡ sets (set (set text (2 * i) (get_or ws i 0 / 256)) (2 * i + 1) (get_or ws i 0 % 256)) (2 * (i + 1)) (characters (drop (i + 1) ws))
  unfolding characters
  unpack_more h =
      let s : 2 * (i + 1) ≡ suc (suc (2 * i)) = omega arith in
      rw (s, add-one (2 * i), add-one i, drop-cons ws i 0 h)

  pub unpack_end : length ws ≤ i → sets text (2 * i) (characters (drop i ws)) ≡ text
  unfolding characters
  unpack_end h = rw (drop_of_length-le ws h)

-- ---- numbers into cursors
length_cursors : (ws : List ℕ) (n i : ℕ) → length (cursors_from ws n i) ≡ n
unfolding cursors_from
length_cursors ws zero i = refl
length_cursors ws (suc n) i = ap suc (length_cursors ws n (i + 1))

pub cursors_start : (ws : List ℕ) (cs : List Cursor) → cs ≡ replicate 16 fresh → sets cs 0 (cursors_from ws (16 - 0) 0) ≡ cursors_of ws
unfolding cursors_of
cursors_start ws cs e = sets_whole cs (cursors_from ws 16 0) (length_cursors ws 16 0 ∙ sym (ap length e))

module _ (ws : List ℕ) (cs : List Cursor) (i : ℕ) where
  pub cursors_more :
      i < 16 → sets cs i (cursors_from ws (16 - i) i) ≡ sets (set cs i (cursor_at ws (4 * i))) (i + 1) (cursors_from ws (16 - (i + 1)) (i + 1))
  unfolding cursors_from
  cursors_more h = let s : 16 - i ≡ suc (16 - (i + 1)) = omega arith in rw (s, add-one)

  pub cursors_end : 16 ≤ i → sets cs i (cursors_from ws (16 - i) i) ≡ cs
  unfolding cursors_from
  cursors_end h = let z : 16 - i ≡ 0 = omega arith in rw z

-- ---- cursors into numbers
pub four :
    (ws : List ℕ) (at : ℕ) (c : Cursor) →
    set (set (set (set ws at c.current) (at + 1) c.path) (at + 2) c.back) (at + 3) c.fore ≡ sets ws at (cursor_words c)
unfolding cursor_words
four ws at c =
    let t : at + 2 ≡ suc (suc at) = omega arith in
    let u : at + 3 ≡ suc (suc (suc at)) = omega arith in
    rw (add-one, t, u)

length_session : (cs : List Cursor) (n i : ℕ) → length (session_from cs n i) ≡ 4 * n
unfolding session_from cursor_words
length_session cs zero i = refl
length_session cs (suc n) i = ap suc (ap suc (ap suc (ap suc (length_session cs n (i + 1))))) ∙ omega arith

pub session_start : (ws : List ℕ) (cs : List Cursor) → 64 ≡ length ws → sets ws (4 * 0) (session_from cs (16 - 0) 0) ≡ session_words cs
unfolding session_words
session_start ws cs l = sets_whole ws (session_from cs 16 0) (length_session cs 16 0 ∙ l)

module _ (ws : List ℕ) (cs : List Cursor) (i : ℕ) where
  pub session_more :
      i < 16 →
      sets ws (4 * i) (session_from cs (16 - i) i)
      ≡ sets (sets ws (4 * i) (cursor_words (get_or cs i fresh))) (4 * (i + 1)) (session_from cs (16 - (i + 1)) (i + 1))
  unfolding session_from cursor_words
  session_more h =
      let t : 16 - i ≡ suc (16 - (i + 1)) = omega arith in
      let s : 4 * (i + 1) ≡ suc (suc (suc (suc (4 * i)))) = omega arith in
      rw (t, s, add-one i)

  pub session_end : 16 ≤ i → sets ws (4 * i) (session_from cs (16 - i) i) ≡ ws
  unfolding session_from
  session_end h = let z : 16 - i ≡ 0 = omega arith in rw z
