-- What a type's number is read as. Assumes nothing.
use Rattle.std.specs.Prelude.{ℕ, ◌≡◌, ◌≤◌, ◌<◌, Result, Ok, Err}
use Rattle.std.specs.Result.{result_unwrap_or}
use Rattle.std.proofs.Common.{refl, sym, ◌∙◌, arith, ne_eqb}
use Rattle.spec.specs.Follow.{other}
use Rattle.root.specs.declared.codes.ItemType.{ItemType}
use Rattle.root.specs.declared.codes.ItemType.TheVariants.{Signed, Unsigned, Text}
use Rattle.root.specs.declared.codes.UnknownCode.{UnknownCode}
use Rattle.root.specs.Codes.{TypeOf}
use Rattle.screen.specs.Item.{type_of}

pub typed : (n : ℕ) (r : Result ItemType UnknownCode) (t : ItemType) → TypeOf n r → t ≡ result_unwrap_or r Text → t ≡ type_of n
typed n (Ok Signed) t h e = rw (← h) e
typed n (Ok Unsigned) t h e = rw (← h) e
typed n (Ok Text) t h e = rw (← h) e
typed n (Err c) t h e =
    let a : n ≡ 1 → ⊥ = λ z. omega (arith, h.1) in
    let b : n ≡ 2 → ⊥ = λ z. omega (arith, h.1) in
    e ∙ sym (other _ _ (ne_eqb n 1 a) (other _ _ (ne_eqb n 2 b) refl))
