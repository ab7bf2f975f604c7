-- What a host finds after a call in the words that it lent, and the number that the call returns: 0 if the call was worked (the
-- status tells how it went), 1 if cursors, status or passed do not have their lengths; then nothing is written.
-- Assumes nothing.
use Rattle.std.specs.Prelude.{ℕ, ◌*◌, Bool, cond, ◌&&◌, List, [], length, leb, ltb, eqb}
use Rattle.spec.specs.Area.{Area}
use Rattle.spec.specs.Calls.{Answer, Made, make, find, get, put, update, delete}
use Rattle.lent.specs.Lent.{cursors_of, session_words, packed, unpacked}

-- ---- the six calls
pub record Left : Type 0 where
  pub code : ℕ
  pub area : Area
  pub cursors : List ℕ
  pub buffer : List ℕ
  pub status : List ℕ
  pub passed : List ℕ

abbrev pub made : Made → Left
made m = record { code = 0; area = m.area; cursors = []; buffer = []; status = m.status; passed = [] }

abbrev pub worked : Answer → Left
worked x =
    record {
      code = 0;
      area = x.area;
      cursors = session_words x.cursors;
      buffer = x.buffer;
      status = x.status;
      passed = x.passed;
    }

abbrev pub kept : Area → List ℕ → List ℕ → List ℕ → List ℕ → Left
kept a cursors buffer status passed =
    record { code = 1; area = a; cursors = cursors; buffer = buffer; status = status; passed = passed }

-- "cursors (64), status (10) or passed (4)"
unfoldable pub right : List ℕ → List ℕ → Bool
right cursors status = eqb (length cursors) 64 && eqb (length status) 10

unfoldable pub right_passed : List ℕ → List ℕ → List ℕ → Bool
right_passed cursors status passed = right cursors status && eqb (length passed) 4

unfoldable pub make_lent : List ℕ → Area → List ℕ → Left
make_lent root a status = cond (eqb (length status) 10) (made (make root a)) (kept a [] [] status [])

unfoldable pub find_lent : List ℕ → Area → List ℕ → ℕ → ℕ → List ℕ → List ℕ → Left
find_lent root a cursors s item key status =
    cond (right cursors status) (worked (find root a (cursors_of cursors) s item key)) (kept a cursors [] status [])

unfoldable pub get_lent : List ℕ → Area → List ℕ → ℕ → ℕ → ℕ → List ℕ → List ℕ → List ℕ → Left
get_lent root a cursors s mode r key buffer status =
    cond (right cursors status) (worked (get root a (cursors_of cursors) s mode r key buffer)) (kept a cursors buffer status [])

unfoldable pub put_lent : List ℕ → Area → List ℕ → ℕ → List ℕ → List ℕ → List ℕ → Left
put_lent root a cursors s entry status passed =
    cond (right_passed cursors status passed) (worked (put root a (cursors_of cursors) s entry)) (kept a cursors [] status passed)

unfoldable pub update_lent : List ℕ → Area → List ℕ → ℕ → List ℕ → List ℕ → Left
update_lent root a cursors s entry status =
    cond (right cursors status) (worked (update root a (cursors_of cursors) s entry)) (kept a cursors [] status [])

unfoldable pub delete_lent : List ℕ → Area → List ℕ → ℕ → List ℕ → Left
delete_lent root a cursors s status =
    cond (right cursors status) (worked (delete root a (cursors_of cursors) s)) (kept a cursors [] status [])

-- ---- characters
pub record Turned : Type 0 where
  pub code : ℕ
  pub result : List ℕ

-- 1 if there are words past every text
unfoldable pub pack_lent : List ℕ → List ℕ → Turned
pack_lent text words =
    cond
    (ltb (length words) 2305843009213693952)
    (record { code = 0; result = packed (length words) text })
    (record { code = 1; result = words })

-- 1 if the text has no room for two characters a word
unfoldable pub unpack_lent : List ℕ → List ℕ → Turned
unpack_lent words text =
    cond
    (leb (2 * length words) (length text))
    (record { code = 0; result = unpacked words text })
    (record { code = 1; result = text })
