-- Steps that may be refused, one after another.
use Rattle.std.proofs.Common.{◌≡◌, Result, Ok, Err, refl, ap, ◌∙◌}
use Rattle.pyr_body.specs.declared.line_fault.LineFault.{LineFault}
use Rattle.pyr_body.specs.Names.{◌>>=◌}

abbrev pub ok_of : {A : Type 0} → A → Result A LineFault
ok_of x = Ok x

-- what was taken was taken at each step
pub bind_ok : {A B : Type 0} (r : Result A LineFault) (f : A → Result B LineFault) (y : B)
    → (r >>= f) ≡ Ok y → (x : A) × (r ≡ Ok x) × (f x ≡ Ok y)
bind_ok (Ok x) f y h = (x, refl, h)
bind_ok (Err e) f y h = absurd (let k : Err e ≡ Ok y = h in cc)

pub bind_is : {A B : Type 0} (r : Result A LineFault) (f : A → Result B LineFault) (x : A) (y : Result B LineFault)
    → r ≡ Ok x → f x ≡ y → (r >>= f) ≡ y
bind_is r f x y h k = ap (λ s. s >>= f) h ∙ k

pub same_ok : {A : Type 0} (x y : A) → ok_of x ≡ Ok y → x ≡ y
same_ok x y h = cc
