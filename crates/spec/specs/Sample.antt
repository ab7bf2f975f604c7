-- Document 01, "The sample base, and cases at the edges": the base; P1 to P12, "one table with a single theorem about the
-- definitions"; the edges of root and area.
-- Assumes nothing.
use Rattle.std.specs.Prelude.{ℕ, ◌+◌, ◌≡◌, refl, Bool, true, ◌&&◌, List, [], ◌∷◌, ◌++◌, length, replicate}
use Rattle.spec.specs.declared.Refusal.{Refusal}
use Rattle.spec.specs.declared.Refusal.TheVariants.{BadRoot, BadLength, NoMode}
use Rattle.spec.specs.declared.Cursor.{Cursor}
use Rattle.spec.specs.Outcome.{open_outcome, number, twos}
use Rattle.spec.specs.Words.{open_words, word, part, long, same}
use Rattle.spec.specs.Root.{open_root, root_good, bit, max_sets}
use Rattle.spec.specs.Layout.{open_layout, area_length, size_of, shape_of, master_of}
use Rattle.spec.specs.Area.{open_area, Area, place, live}
use Rattle.spec.specs.Master.{open_master, key_number, address_in, address}
use Rattle.spec.specs.Detail.{open_detail}
use Rattle.spec.specs.Cursor.{open_cursor, fresh}
use Rattle.spec.specs.Calls.{open_calls, Answer, make, find, get, put, delete}

-- "Items: 1 ACCT K1, 2 DATE K1, 3 QTY I1, 4 NAME X2. Set 1, manual, capacity 5: items 1, 4, key 1. Set 2, automatic, capacity
-- 5: item 2. Set 3, detail, capacity 4: items 1, 2, 3; paths (1, 1, 2) and (2, 2, 0)." Here with any capacity of set 1.
unfoldable pub sample_root_at : ℕ → List ℕ
sample_root_at cap =
    4 ∷ 3 ∷ 2 ∷ 1 ∷ 2 ∷ 1 ∷ 1 ∷ 1 ∷ 3 ∷ 2 ∷ []
    ++ (1 ∷ cap ∷ 2 ∷ 1 ∷ 0 ∷ 1 ∷ 4 ∷ replicate 14 0 ++ replicate 12 0)
    ++ (2 ∷ 5 ∷ 1 ∷ 2 ∷ 0 ∷ 2 ∷ replicate 15 0 ++ replicate 12 0)
    ++ (3 ∷ 4 ∷ 3 ∷ 0 ∷ 2 ∷ 1 ∷ 2 ∷ 3 ∷ replicate 13 0 ++ (1 ∷ 1 ∷ 2 ∷ 2 ∷ 2 ∷ 0 ∷ replicate 6 0))

abbrev pub sample_root : List ℕ
sample_root = sample_root_at 5

-- sets by name, and the paths of set 3 by their search items
abbrev accounts : ℕ
accounts = 1

abbrev dates : ℕ
dates = 2

abbrev lines : ℕ
lines = 3

abbrev by_account : ℕ
by_account = 1

abbrev by_date : ℕ
by_date = 2

-- A row asks one thing of the base as the rows above left it, and says what is answered.
pub data Ask : Type 0 where
  -- numbers alone: a key's number, an address, the address of an account, a condition word
  key_of_text : List ℕ → Ask
  address_of : (cap v : ℕ) → Ask
  account_at : (key : ℕ) → Ask
  stored : Refusal → Ask
  -- calls: told are the condition word, the record and, after a put, the lines passed on four paths
  a_put : (set : ℕ) → List ℕ → Ask
  a_delete : (set : ℕ) → Ask
  a_find : (set item : ℕ) → List ℕ → Ask
  a_get : (set mode rec : ℕ) → List ℕ → Ask
  -- the base: synonym words of a record as count, last, first; an entry; whether a record is live
  synonyms_of : (set rec : ℕ) → Ask
  entry_of : (set rec : ℕ) → Ask
  is_live : (set rec : ℕ) → Ask

pub record Base : Type 0 where
  pub area : Area
  pub cursors : List Cursor

-- "In order, from new"
abbrev pub new : Base
new = record { area = (make sample_root (replicate 173 7)).area; cursors = replicate max_sets fresh }

-- what is told of an answer, and the base after it
pub record Told : Type 0 where
  pub base : Base
  pub told : List ℕ

unfoldable pub after : Answer → List ℕ → Told
after w more =
    record {
      base = record { area = w.area; cursors = w.cursors };
      told = word w.status 0 ∷ long w.status 2 ∷ more;
    }

-- where a record's five synonym words, and its entry, begin
abbrev entry_from : ℕ → ℕ
entry_from s = (shape_of sample_root s).front

unfoldable pub ask : Base → Ask → Told
ask b (key_of_text key) = record { base = b; told = key_number 257 0 key ∷ [] }
ask b (address_of cap v) = record { base = b; told = address_in cap v ∷ [] }
ask b (account_at key) = record { base = b; told = address (master_of sample_root accounts) (key ∷ []) ∷ [] }
ask b (stored why) = record { base = b; told = twos (number why) ∷ [] }
ask b (a_put s entry) = let w : Answer = put sample_root b.area b.cursors s entry in after w w.passed
ask b (a_delete s) = after (delete sample_root b.area b.cursors s) []
ask b (a_find s item key) = after (find sample_root b.area b.cursors s item key) []
ask b (a_get s mode r key) = after (get sample_root b.area b.cursors s mode r key (replicate 3 0)) []
ask b (synonyms_of s r) =
    let at : ℕ = place (shape_of sample_root s) r in
    record { base = b; told = word b.area at ∷ long b.area (at + 1) ∷ long b.area (at + 3) ∷ [] }
ask b (entry_of s r) =
    record { base = b; told = part b.area (place (shape_of sample_root s) r + entry_from s) (shape_of sample_root s).entry }
ask b (is_live s r) = record { base = b; told = bit (live (shape_of sample_root s) b.area r) ∷ [] }

pub record Row : Type 0 where
  pub asked : Ask
  pub answered : List ℕ

infix 3 ◌gives◌
abbrev ◌gives◌ : Ask → List ℕ → Row
q gives e = record { asked = q; answered = e }

unfoldable pub right : Base → List Row → Bool
right b [] = true
right b (r ∷ rs) = let t : Told = ask b r.asked in same t.told r.answered && right t.base rs

-- the entry of an account, with the name "AB  "; a line of an account on a date, QTY 7
abbrev account : ℕ → List ℕ
account n = n ∷ 16706 ∷ 8224 ∷ []

abbrev line : ℕ → ℕ → List ℕ
line acct date = acct ∷ date ∷ 7 ∷ []

unfoldable pub table : List Row
table =
    -- P1 "C = 5: keys 1, 5, 6, 0, 65535 go to 1, 5, 1, 5, 5."
    (account_at 1 gives 1 ∷ [])
    ∷ (account_at 5 gives 5 ∷ [])
    ∷ (account_at 6 gives 1 ∷ [])
    ∷ (account_at 0 gives 5 ∷ [])
    ∷ (account_at 65535 gives 5 ∷ [])
    -- P2 ""ABCD" gives 4310662; C = 101: address 83."
    ∷ (key_of_text (16706 ∷ 17220 ∷ []) gives 4310662 ∷ [])
    ∷ (address_of 101 4310662 gives 83 ∷ [])
    -- P3 "Put accounts 1, 6: records 1, 2; record 1 has count 2, last 2, first 2."
    ∷ (a_put accounts (account 1) gives 0 ∷ 1 ∷ 0 ∷ 0 ∷ 0 ∷ 0 ∷ [])
    ∷ (a_put accounts (account 6) gives 0 ∷ 2 ∷ 0 ∷ 0 ∷ 0 ∷ 0 ∷ [])
    ∷ (synonyms_of accounts 1 gives 2 ∷ 2 ∷ 2 ∷ [])
    -- P4 "Put 2: account 6 moves to 3, 2 takes record 2."
    ∷ (a_put accounts (account 2) gives 0 ∷ 2 ∷ 0 ∷ 0 ∷ 0 ∷ 0 ∷ [])
    ∷ (entry_of accounts 3 gives account 6)
    ∷ (entry_of accounts 2 gives account 2)
    -- P5 "Delete 1: account 6 moves to 1, record 3 unused."
    ∷ (a_get accounts 7 0 (1 ∷ []) gives 0 ∷ 1 ∷ [])
    ∷ (a_delete accounts gives 0 ∷ 0 ∷ [])
    ∷ (entry_of accounts 1 gives account 6)
    ∷ (is_live accounts 3 gives 0 ∷ [])
    -- P6 "Put 6 again: 43."
    ∷ (a_put accounts (account 6) gives 43 ∷ 0 ∷ 0 ∷ 0 ∷ 0 ∷ 0 ∷ [])
    -- P7 "Line for account 9: 101."
    ∷ (a_put lines (line 9 20) gives 101 ∷ 0 ∷ 0 ∷ 0 ∷ 0 ∷ 0 ∷ [])
    -- P8 "Lines for account 2, QTY 7, dates 20, 10, 20: records 1, 2, 3; passed 0, 1, 0; forward 2, 1, 3. Date 20 at record 5,
    -- date 10 at 1." Backward, too, so that every link of the chain is told.
    ∷ (a_put lines (line 2 20) gives 0 ∷ 1 ∷ 0 ∷ 0 ∷ 0 ∷ 0 ∷ [])
    ∷ (a_put lines (line 2 10) gives 0 ∷ 2 ∷ 1 ∷ 0 ∷ 0 ∷ 0 ∷ [])
    ∷ (a_put lines (line 2 20) gives 0 ∷ 3 ∷ 0 ∷ 0 ∷ 0 ∷ 0 ∷ [])
    ∷ (a_find lines by_account (2 ∷ []) gives 0 ∷ 0 ∷ [])
    ∷ (a_get lines 5 0 [] gives 0 ∷ 2 ∷ [])
    ∷ (a_get lines 5 0 [] gives 0 ∷ 1 ∷ [])
    ∷ (a_get lines 5 0 [] gives 0 ∷ 3 ∷ [])
    ∷ (a_get lines 5 0 [] gives 15 ∷ 0 ∷ [])
    ∷ (a_get lines 6 0 [] gives 0 ∷ 1 ∷ [])
    ∷ (a_get lines 6 0 [] gives 0 ∷ 2 ∷ [])
    ∷ (a_get lines 6 0 [] gives 14 ∷ 0 ∷ [])
    ∷ (a_get dates 7 0 (20 ∷ []) gives 0 ∷ 5 ∷ [])
    ∷ (a_get dates 7 0 (10 ∷ []) gives 0 ∷ 1 ∷ [])
    -- P9 "Delete account 2: 44."
    ∷ (a_get accounts 7 0 (2 ∷ []) gives 0 ∷ 2 ∷ [])
    ∷ (a_delete accounts gives 44 ∷ 0 ∷ [])
    -- P10 "Delete line 1, then 3: forward 2; date 10 now at record 5, record 1 of set 2 unused." Its head came with it: the chain
    -- of date 10 is still line 2.
    ∷ (a_get lines 4 1 [] gives 0 ∷ 1 ∷ [])
    ∷ (a_delete lines gives 0 ∷ 0 ∷ [])
    ∷ (a_get lines 4 3 [] gives 0 ∷ 3 ∷ [])
    ∷ (a_delete lines gives 0 ∷ 0 ∷ [])
    ∷ (a_find lines by_account (2 ∷ []) gives 0 ∷ 0 ∷ [])
    ∷ (a_get lines 5 0 [] gives 0 ∷ 2 ∷ [])
    ∷ (a_get lines 5 0 [] gives 15 ∷ 0 ∷ [])
    ∷ (a_get dates 7 0 (10 ∷ []) gives 0 ∷ 5 ∷ [])
    ∷ (is_live dates 1 gives 0 ∷ [])
    ∷ (a_find lines by_date (10 ∷ []) gives 0 ∷ 0 ∷ [])
    ∷ (a_get lines 5 0 [] gives 0 ∷ 2 ∷ [])
    -- P11 "The next line takes record 3, the next record 1."
    ∷ (a_put lines (line 2 30) gives 0 ∷ 3 ∷ 0 ∷ 0 ∷ 0 ∷ 0 ∷ [])
    ∷ (a_put lines (line 2 5) gives 0 ∷ 1 ∷ 2 ∷ 0 ∷ 0 ∷ 0 ∷ [])
    -- P12 "−31 is stored as 65505."
    ∷ (stored NoMode gives 65505 ∷ [])
    ∷ (a_get lines 8 0 [] gives 65505 ∷ 0 ∷ [])
    ∷ []

-- THE THEOREM of the table: each row is answered as it says
pub worked : right new table ≡ true
unfolding open_outcome open_words open_root open_layout open_area open_master open_detail open_cursor open_calls sample_root_at after ask right table
worked = refl

-- "Root 109 words; area 68 + 58 + 47 = 173. 4,095 is a good capacity, 4,096 is −91; 172 or 174 words are −92."
abbrev made_with : ℕ → ℕ → ℕ
made_with cap words = word (make (sample_root_at cap) (replicate words 7)).status 0

pub edges : same
    (length sample_root
    ∷ size_of sample_root accounts
    ∷ size_of sample_root dates
    ∷ size_of sample_root lines
    ∷ area_length sample_root
    ∷ bit (root_good (sample_root_at 4095))
    ∷ bit (root_good (sample_root_at 4096))
    ∷ made_with 5 173
    ∷ made_with 4096 173
    ∷ made_with 5 172
    ∷ made_with 5 174
    ∷ [])
    (109 ∷ 68 ∷ 58 ∷ 47 ∷ 173 ∷ 1 ∷ 0 ∷ 0 ∷ twos (number BadRoot) ∷ twos (number BadLength) ∷ twos (number BadLength) ∷ [])
    ≡ true
unfolding open_outcome open_words open_root open_layout open_area open_master open_detail open_cursor open_calls sample_root_at
edges = refl
