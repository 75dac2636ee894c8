-- Names that are read one after another.
use Rattle.std.proofs.Common.{◌≡◌, ◌∙◌, ℕ, ◌+◌, List, [], ◌∷◌, ◌++◌, drop, Option, Some, None, refl, sym, ap, append_assoc}
use Rattle.pyr_num.specs.declared.name.Name.{Name}
use Rattle.pyr_lex.specs.declared.spanned_token.SpannedToken.{SpannedToken}
use Rattle.pyr_lex.specs.Token.{tokens_in}
use Rattle.pyr_graphtext.specs.FormReading.{◌>>=◌, name_in, names_in}

-- the names that were read, and those that are still to be read
abbrev pub with_front : {A : Type 0} → List A → Option (List A) → Option (List A)
with_front front read = read >>= λ xs. Some (front ++ xs)

pub regroup : {A : Type 0} (front : List A) (x : A) (read : Option (List A)) → with_front front (read >>= λ xs. Some (x ∷ xs)) ≡ with_front (front ++ x ∷ []) read
regroup {A} front x (Some xs) = ap (λ (ys : List A). Some ys) (simp append_assoc)
regroup front x None = refl

-- one name more was read
pub name_more : (names names' : List Name) (tokens : List SpannedToken) (i : ℕ) (token : SpannedToken) (name : Name) (all : Option (List Name))
    → drop i tokens ≡ token ∷ drop (i + 1) tokens → name_in token.token ≡ Some name → names' ≡ names ++ name ∷ []
    → with_front names (names_in (tokens_in (drop i tokens))) ≡ all
    → with_front names' (names_in (tokens_in (drop (i + 1) tokens))) ≡ all
name_more names names' tokens i token name all cut named pushed so_far =
    let left = names_in (tokens_in (drop (i + 1) tokens)) in
    ap (λ (ns : List Name). with_front ns left) pushed
    ∙ sym (regroup names name left)
    ∙ sym (ap (λ (o : Option Name). with_front names (o >>= λ n. left >>= λ ns. Some (n ∷ ns))) named)
    ∙ sym (ap (λ (ts : List SpannedToken). with_front names (names_in (tokens_in ts))) cut)
    ∙ so_far
