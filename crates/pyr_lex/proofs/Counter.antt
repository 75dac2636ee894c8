-- The counter of open brackets along a line.
use Rattle.std.proofs.Common.{◌≡◌, ℕ, ◌+◌, ◌<◌, ◌≤◌, max, List, [], ◌∷◌, length, slice_index_or, drop, sym, ap, ◌∙◌, arith, drop-cons, add-one}
use Rattle.pyr_lex.specs.declared.token.Token.{Token}
use Rattle.pyr_lex.specs.declared.token.Token.TheVariants.{Symbol}
use Rattle.pyr_lex.specs.declared.symbol.Symbol.TheVariants as symbols
use Rattle.pyr_lex.specs.declared.spanned_token.SpannedToken.{SpannedToken}
use Rattle.pyr_lex.specs.Token.{tokens_in}
use Rattle.pyr_lex.specs.Depth.{count_after, depth_from, depth_of}

-- What the loop keeps: the greatest value so far and those of the rest are the line's.
pub record HasCounted (tokens : List SpannedToken) (index count deepest : ℕ) : Type 0 where
  pub so_far : max deepest (depth_from count (tokens_in (drop index tokens))) ≡ depth_of (tokens_in tokens)
  pub few : count ≤ index
  pub most : count ≤ deepest

pub count_after-le : (t : Token) (count : ℕ) → count_after t count ≤ count + 1
count_after-le (Symbol symbols.ParenOpen) count = omega arith
count_after-le (Symbol symbols.BracketOpen) count = omega arith
count_after-le (Symbol symbols.ParenClose) count = omega arith
count_after-le (Symbol symbols.BracketClose) count = omega arith
count_after-le t count = omega arith

-- the counter's first value is among its values
depth_from-ge : (count : ℕ) (ts : List Token) → count ≤ depth_from count ts
depth_from-ge count [] = omega arith
depth_from-ge count (t ∷ ts) = omega arith

pub counts_on : (tokens : List SpannedToken) (index : ℕ) (t : SpannedToken) (count deepest count' deepest' : ℕ) → index < length tokens → t ≡ slice_index_or tokens index t
    → count' ≡ count_after t.token count → deepest' ≡ max deepest count' → HasCounted tokens index count deepest → HasCounted tokens (index + 1) count' deepest'
counts_on tokens index t count deepest count' deepest' within is next greatest so_far =
    let rest : List Token = tokens_in (drop (index + 1) tokens) in
    let cut : drop index tokens ≡ t ∷ drop (index + 1) tokens = rw add-one (drop-cons tokens index t within) ∙ ap (λ (x : SpannedToken). x ∷ drop (index + 1) tokens) (sym is) in
    let here : max deepest (max count (depth_from (count_after t.token count) rest)) ≡ depth_of (tokens_in tokens) = ap (λ (xs : List SpannedToken). max deepest (depth_from count (tokens_in xs))) (sym cut) ∙ so_far.so_far in
    let then : max deepest (max count (depth_from count' rest)) ≡ depth_of (tokens_in tokens) = ap (λ (n : ℕ). max deepest (max count (depth_from n rest))) next ∙ here in
    let least : count' ≤ depth_from count' rest = depth_from-ge count' rest in
    let few = so_far.few in
    let most = so_far.most in
    let step = count_after-le t.token count in
    record { so_far = omega arith; few = omega arith; most = omega arith }
