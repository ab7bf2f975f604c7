-- What a step comes to under the invariant: refused, but never with 18, or accepted with a value of which something holds. A do block is followed a line at a time by
-- `next`. And what the first status word tells: of the refusals only one is 18, and none is 0.
use Rattle.std.specs.Prelude.{◌≡◌, refl, ◌≢◌, Bool, true, false, ℕ, eqb}
use Rattle.std.proofs.Common.{sym, ap, ◌∙◌, subst, true≢false, arith}
use Rattle.std.proofs.lemmas.Bool.{eqb-false}
use Rattle.spec.specs.declared.Refusal.{Refusal}
use Rattle.spec.specs.declared.Refusal.TheVariants.{BadRoot, BadLength, NoSet, BadCursor, NotByCall, NoMode, NotSearched, WrongLength, NoPath, ShortBuffer, NoRecord, NoneBelow, NoneAbove, RecordZero, PastCapacity, ChainStart, ChainEnd, KeyChanged, KeyPresent, SetFull, HasLines, NoEntry, MasterFull, Broken}
use Rattle.spec.specs.Outcome.{Outcome, accept, refuse, require, ◌>>=◌, number, twos, refused_words}
use Rattle.spec.specs.Words.{word}
use Rattle.spec.specs.Cursor.{nonzero}
use Rattle.history.specs.Walk.{by_bool}

-- ---- refusals

abbrev pub broken : Refusal → Bool
broken Broken = true
broken BadRoot = false
broken BadLength = false
broken NoSet = false
broken BadCursor = false
broken NotByCall = false
broken NoMode = false
broken NotSearched = false
broken WrongLength = false
broken NoPath = false
broken ShortBuffer = false
broken NoRecord = false
broken NoneBelow = false
broken NoneAbove = false
broken RecordZero = false
broken PastCapacity = false
broken ChainStart = false
broken ChainEnd = false
broken KeyChanged = false
broken KeyPresent = false
broken SetFull = false
broken HasLines = false
broken (NoEntry p) = false
broken (MasterFull p) = false

pub not_broken : (why : Refusal) → broken why ≡ false → why ≢ Broken
not_broken why e z = true≢false (sym (ap broken z) ∙ e)

-- 18 is the number of this one refusal
pub never_18 : (why : Refusal) → why ≢ Broken → word (refused_words why) 0 ≢ 18
unfolding refused_words number twos
never_18 Broken n z = n refl
never_18 BadRoot n z = omega arith
never_18 BadLength n z = omega arith
never_18 NoSet n z = omega arith
never_18 BadCursor n z = omega arith
never_18 NotByCall n z = omega arith
never_18 NoMode n z = omega arith
never_18 NotSearched n z = omega arith
never_18 WrongLength n z = omega arith
never_18 NoPath n z = omega arith
never_18 ShortBuffer n z = omega arith
never_18 NoRecord n z = omega arith
never_18 NoneBelow n z = omega arith
never_18 NoneAbove n z = omega arith
never_18 RecordZero n z = omega arith
never_18 PastCapacity n z = omega arith
never_18 ChainStart n z = omega arith
never_18 ChainEnd n z = omega arith
never_18 KeyChanged n z = omega arith
never_18 KeyPresent n z = omega arith
never_18 SetFull n z = omega arith
never_18 HasLines n z = omega arith
never_18 (NoEntry p) n z = omega arith
never_18 (MasterFull p) n z = omega arith

-- no refusal has the number of success
pub never_0 : (why : Refusal) → word (refused_words why) 0 ≢ 0
unfolding refused_words number twos
never_0 Broken z = omega arith
never_0 BadRoot z = omega arith
never_0 BadLength z = omega arith
never_0 NoSet z = omega arith
never_0 BadCursor z = omega arith
never_0 NotByCall z = omega arith
never_0 NoMode z = omega arith
never_0 NotSearched z = omega arith
never_0 WrongLength z = omega arith
never_0 NoPath z = omega arith
never_0 ShortBuffer z = omega arith
never_0 NoRecord z = omega arith
never_0 NoneBelow z = omega arith
never_0 NoneAbove z = omega arith
never_0 RecordZero z = omega arith
never_0 PastCapacity z = omega arith
never_0 ChainStart z = omega arith
never_0 ChainEnd z = omega arith
never_0 KeyChanged z = omega arith
never_0 KeyPresent z = omega arith
never_0 SetFull z = omega arith
never_0 HasLines z = omega arith
never_0 (NoEntry p) z = omega arith
never_0 (MasterFull p) z = omega arith

-- ---- steps

pub data Ends {A : Type 0} (P : A → Type 0) : Outcome A → Type 0 where
  refused : (why : Refusal) → why ≢ Broken → Ends P (refuse why)
  done : (x : A) → P x → Ends P (accept x)

-- `x ← step` and what follows it
pub next : {A B : Type 0} {P : A → Type 0} {Q : B → Type 0} {m : Outcome A} (f : A → Outcome B) → Ends P m → ((x : A) → P x → Ends Q (f x)) → Ends Q (m >>= f)
next f (refused why n) k = refused why n
next f (done x p) k = k x p

-- `_ ← require test why`
pub asks : {B : Type 0} {Q : B → Type 0} (t : Bool) (why : Refusal) (f : Unit {0} → Outcome B) → broken why ≡ false → (t ≡ true → Ends Q (f tt)) → Ends Q (require t why >>= f)
asks true why f n k = k refl
asks false why f n k = refused why (not_broken why n)

-- a number that is refused where it is 0
pub some_number : {B : Type 0} {Q : B → Type 0} (r : ℕ) (why : Refusal) (f : ℕ → Outcome B) → broken why ≡ false → (r ≢ 0 → Ends Q (f r)) → Ends Q (nonzero r why >>= f)
unfolding nonzero
some_number r why f n k = by_bool (eqb r 0) (λ e. rw (e, ◌>>=◌) (refused why (not_broken why n))) (λ e. rw (e, ◌>>=◌) (k (eqb-false r 0 e)))

pub number_ends : {P : ℕ → Type 0} (r : ℕ) (why : Refusal) → broken why ≡ false → (r ≢ 0 → P r) → Ends P (nonzero r why)
unfolding nonzero
number_ends r why n k = by_bool (eqb r 0) (λ e. rw (e, nonzero) (refused why (not_broken why n))) (λ e. rw (e, nonzero) (done r (k (eqb-false r 0 e))))

-- a step that is known to accept
pub answers : {A B : Type 0} {Q : B → Type 0} {m : Outcome A} {x : A} (f : A → Outcome B) → m ≡ accept x → Ends Q (f x) → Ends Q (m >>= f)
answers {Q = Q} f e k = subst (λ m. Ends Q (m >>= f)) (sym e) k
