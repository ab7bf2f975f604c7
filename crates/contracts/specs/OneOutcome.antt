-- The contracts of the six calls, and that each leaves one outcome: two outcomes that satisfy it are equal. An outcome is all that
-- a call can write or answer: a find and a get are lent the area to be read, only a get is lent a buffer to be written.
-- Assumes nothing.
use Rattle.std.specs.Prelude.{ℕ, ◌≡◌, List}
use Rattle.std.proofs.Common.{sym, ◌∙◌}
use Rattle.spec.specs.declared.Cursor.{Cursor}
use Rattle.spec.specs.Area.{Area}
use Rattle.spec.specs.Calls.{Made, make, Answer, find, get, put, update, delete}

-- ---- making a base: status and area
pub record Makes (root : List ℕ) (a : Area) (o : Made) : Type 0 where
  pub status : o.status ≡ (make root a).status
  pub area : o.area ≡ (make root a).area

-- ---- find: status, cursors, passed
pub record Found : Type 0 where
  pub status : List ℕ
  pub cursors : List Cursor
  pub passed : List ℕ

pub record Finds (root : List ℕ) (a : Area) (cs : List Cursor) (s item : ℕ) (value : List ℕ) (o : Found) : Type 0 where
  pub status : o.status ≡ (find root a cs s item value).status
  pub cursors : o.cursors ≡ (find root a cs s item value).cursors
  pub passed : o.passed ≡ (find root a cs s item value).passed

-- ---- get: the same, and the buffer
pub record Got : Type 0 where
  pub status : List ℕ
  pub cursors : List Cursor
  pub passed : List ℕ
  pub buffer : List ℕ

pub record Gets (root : List ℕ) (a : Area) (cs : List Cursor) (s mode number : ℕ) (value given : List ℕ) (o : Got) : Type 0 where
  pub status : o.status ≡ (get root a cs s mode number value given).status
  pub cursors : o.cursors ≡ (get root a cs s mode number value given).cursors
  pub passed : o.passed ≡ (get root a cs s mode number value given).passed
  pub buffer : o.buffer ≡ (get root a cs s mode number value given).buffer

-- ---- put, update, delete: status, cursors, passed, area
pub record Changed : Type 0 where
  pub status : List ℕ
  pub cursors : List Cursor
  pub passed : List ℕ
  pub area : Area

-- what the contract of a changing call says, whose definition answers x
pub record Changes (x : Answer) (o : Changed) : Type 0 where
  pub status : o.status ≡ x.status
  pub cursors : o.cursors ≡ x.cursors
  pub passed : o.passed ≡ x.passed
  pub area : o.area ≡ x.area

unfoldable pub Puts : List ℕ → Area → List Cursor → ℕ → List ℕ → Changed → Type 0
Puts root a cs s entry = Changes (put root a cs s entry)

unfoldable pub Updates : List ℕ → Area → List Cursor → ℕ → List ℕ → Changed → Type 0
Updates root a cs s entry = Changes (update root a cs s entry)

unfoldable pub Deletes : List ℕ → Area → List Cursor → ℕ → Changed → Type 0
Deletes root a cs s = Changes (delete root a cs s)

-- ---- one outcome each

module _ (root : List ℕ) (a : Area) where
  pub one_make : (o p : Made) → Makes root a o → Makes root a p → o ≡ p
  one_make o p u v i = record { status = (u.status ∙ sym v.status) i; area = (u.area ∙ sym v.area) i }

  module _ (cs : List Cursor) (s : ℕ) where
    pub one_find : (item : ℕ) (value : List ℕ) (o p : Found) → Finds root a cs s item value o → Finds root a cs s item value p → o ≡ p
    one_find item value o p u v i =
        record {
          status = (u.status ∙ sym v.status) i;
          cursors = (u.cursors ∙ sym v.cursors) i;
          passed = (u.passed ∙ sym v.passed) i;
        }

    pub one_get :
        (mode number : ℕ) (value buffer : List ℕ) (o p : Got) →
        Gets root a cs s mode number value buffer o → Gets root a cs s mode number value buffer p → o ≡ p
    one_get mode number value buffer o p u v i =
        record {
          status = (u.status ∙ sym v.status) i;
          cursors = (u.cursors ∙ sym v.cursors) i;
          passed = (u.passed ∙ sym v.passed) i;
          buffer = (u.buffer ∙ sym v.buffer) i;
        }

one_change : (x : Answer) (o p : Changed) → Changes x o → Changes x p → o ≡ p
one_change x o p u v i =
    record {
      status = (u.status ∙ sym v.status) i;
      cursors = (u.cursors ∙ sym v.cursors) i;
      passed = (u.passed ∙ sym v.passed) i;
      area = (u.area ∙ sym v.area) i;
    }

module _ (root : List ℕ) (a : Area) (cs : List Cursor) (s : ℕ) (o p : Changed) where
  pub one_put : (entry : List ℕ) → Puts root a cs s entry o → Puts root a cs s entry p → o ≡ p
  unfolding Puts
  one_put entry u v = one_change (put root a cs s entry) o p u v

  pub one_update : (entry : List ℕ) → Updates root a cs s entry o → Updates root a cs s entry p → o ≡ p
  unfolding Updates
  one_update entry u v = one_change (update root a cs s entry) o p u v

  pub one_delete : Deletes root a cs s o → Deletes root a cs s p → o ≡ p
  unfolding Deletes
  one_delete u v = one_change (delete root a cs s) o p u v
