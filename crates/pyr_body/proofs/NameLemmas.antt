-- Names have the numbers at which they stand.
use Rattle.std.proofs.Common.{◌≡◌, ℕ, zero, suc, ◌+◌, ◌-◌, ◌<◌, ◌≤◌, List, [], ◌∷◌, length, max, Option, Some, None, Ok, get_or, refl, sym, ap, subst, ◌∙◌, arith, length-append}
use Rattle.std.specs.Prelude.{◌≢◌, bytes_eq, slice_get}
use Rattle.std.proofs.lemmas.Bool.{cond_both}
use Rattle.std.proofs.lemmas.Slice.Eq.{bytes_eq-Decides}
use Rattle.std.proofs.lemmas.List.Quantifiers.{all_pairs_push}
use Rattle.pyr_num.specs.declared.name.Name.{Name}
use Rattle.pyr_body.specs.Tree.{Expr}
use Rattle.pyr_body.specs.Tree as tree
use Rattle.pyr_body.specs.Size.{expr_nodes, expr_brackets}
use Rattle.pyr_body.specs.Scope.{IsScoped}
use Rattle.pyr_body.specs.Body.{AreDistinct}
use Rattle.pyr_body.specs.Written.{WrittenExpr, Num, Local, Frame, Get, Bin, Sel, written_nodes, written_brackets}
use Rattle.pyr_body.specs.Names.{◌>>=◌, index_from, index_of, known_at, known, resolved}
use Rattle.pyr_body.specs.Taking.{numbered}
use Rattle.pyr_body.proofs.Binding.{bind_ok, same_ok}

-- a name that is found stands there, and so within the list
pub record IsFound (k : ℕ) (name : Name) (xs : List Name) (i : ℕ) : Type 0 where
  pub from : k ≤ i
  pub within : i < k + length xs
  pub name_there : slice_get xs (i - k) ≡ Some name

pub found : (k : ℕ) (name : Name) (xs : List Name) (i : ℕ) → index_from k name xs ≡ Some i → IsFound k name xs i
found k name [] i h = absurd (let j : None ≡ Some i = h in cc)
found k name (x ∷ xs) i h =
    let go : index_from k name (x ∷ xs) ≡ Some i → IsFound k name (x ∷ xs) i =
    cond_both (bytes_eq x name) _ _ (λ (o : Option ℕ). o ≡ Some i → IsFound k name (x ∷ xs) i)
    (λ e. λ h.
    let j : k ≡ i = cc in
    let z : 0 ≡ i - k = omega (arith, j) in
    record {
      from = omega (arith, j);
      within = omega (arith, j);
      name_there = ap (λ n. slice_get (x ∷ xs) n) (sym z) ∙ ap Some ((bytes_eq-Decides x name).0 e);
    })
    (λ e. λ h.
    let r = found (k + 1) name xs i h in
    let z : i - k ≡ suc (i - (k + 1)) = omega (arith, r.from) in
    record {
      from = omega (arith, r.from);
      within = omega (arith, r.within);
      name_there = ap (λ n. slice_get (x ∷ xs) n) z ∙ r.name_there;
    }) in
    go h

-- a name that isn't found differs from each
pub differs : (k : ℕ) (name : Name) (xs : List Name) → index_from k name xs ≡ None → (i : ℕ) (d : Name) → i < length xs → get_or xs i d ≢ name
differs k name [] h i d l = absurd (omega (arith, l))
differs k name (x ∷ xs) h i d l =
    let go : index_from k name (x ∷ xs) ≡ None → get_or (x ∷ xs) i d ≢ name =
    cond_both (bytes_eq x name) _ _ (λ (o : Option ℕ). o ≡ None → get_or (x ∷ xs) i d ≢ name)
    (λ e. λ h. absurd (let j : Some k ≡ None = h in cc))
    (λ e. λ h. at_place i l (λ p. absurd (let t = (bytes_eq-Decides x name).1 p in cc)) (differs (k + 1) name xs h)) in
    go h
  where
    at_place : (i : ℕ) → i < length (x ∷ xs) → x ≢ name → ((j : ℕ) (d : Name) → j < length xs → get_or xs j d ≢ name) → get_or (x ∷ xs) i d ≢ name
    at_place zero l first rest = first
    at_place (suc j) l first rest = rest j d (omega (arith, l))

-- a known name stands at its number
pub record IsKnown (name : Name) (xs : List Name) (i : ℕ) : Type 0 where
  pub within : i < length xs
  pub name_there : slice_get xs i ≡ Some name

pub found_first : (name : Name) (xs : List Name) (i : ℕ) → index_of name xs ≡ Some i → IsKnown name xs i
found_first name xs i e =
    let r = found 0 name xs i e in
    let z : i - 0 ≡ i = omega arith in
    record { within = omega (arith, r.within); name_there = ap (λ n. slice_get xs n) (sym z) ∙ r.name_there }

pub known_there : (name : Name) (xs : List Name) (i : ℕ) → known name xs ≡ Ok i → IsKnown name xs i
known_there name xs i h = by_option (index_of name xs) refl h where
  by_option : (o : Option ℕ) → index_of name xs ≡ o → known_at name o ≡ Ok i → IsKnown name xs i
  by_option (Some j) e k = subst (IsKnown name xs) (same_ok j i k) (found_first name xs j e)
  by_option None e k = absurd cc

-- an expression with its numbers: its size, its brackets, and that what it names exists
pub record IsResolved (slots locals : ℕ) (e : WrittenExpr) (x : Expr) : Type 0 where
  pub nodes : expr_nodes x ≡ written_nodes e
  pub brackets : expr_brackets x ≡ written_brackets e
  pub scoped : IsScoped slots locals x

module _ (locals slots : List Name) where
  pub resolved_is : (e : WrittenExpr) (x : Expr) → resolved locals slots e ≡ Ok x → IsResolved (length slots) (length locals) e x
  resolved_is (Num word) x h =
      subst (IsResolved (length slots) (length locals) (Num word)) (same_ok (tree.Num word) x h)
      (record { nodes = refl; brackets = refl; scoped = tt })
  resolved_is (Local name) x h =
      let l = bind_ok (known name locals) (λ l. Ok (tree.Local l)) x h in
      subst (IsResolved (length slots) (length locals) (Local name)) (same_ok (tree.Local l.0) x l.2)
      (record { nodes = refl; brackets = refl; scoped = (known_there name locals l.0 l.1).within })
  resolved_is Frame x h =
      subst (IsResolved (length slots) (length locals) Frame) (same_ok tree.Frame x h)
      (record { nodes = refl; brackets = refl; scoped = tt })
  resolved_is (Get name index) x h =
      let slot = bind_ok (known name slots) (λ slot. resolved locals slots index >>= λ i. Ok (tree.Get slot i)) x h in
      let i = bind_ok (resolved locals slots index) (λ i. Ok (tree.Get slot.0 i)) x slot.2 in
      let r = resolved_is index i.0 i.1 in
      subst (IsResolved (length slots) (length locals) (Get name index)) (same_ok (tree.Get slot.0 i.0) x i.2) (record {
        nodes = omega (arith, r.nodes);
        brackets = omega (arith, r.brackets);
        scoped = ((known_there name slots slot.0 slot.1).within, r.scoped);
      })
  resolved_is (Bin operator a b) x h =
      let u = bind_ok (resolved locals slots a) (λ u. resolved locals slots b >>= λ v. Ok (tree.Bin operator u v)) x h in
      let v = bind_ok (resolved locals slots b) (λ v. Ok (tree.Bin operator u.0 v)) x u.2 in
      let r = resolved_is a u.0 u.1 in
      let s = resolved_is b v.0 v.1 in
      subst (IsResolved (length slots) (length locals) (Bin operator a b)) (same_ok (tree.Bin operator u.0 v.0) x v.2) (record {
        nodes = omega (arith, r.nodes, s.nodes);
        brackets = omega (arith, r.brackets, s.brackets);
        scoped = (r.scoped, s.scoped);
      })
  resolved_is (Sel c a b) x h =
      let t = bind_ok (resolved locals slots c) (λ t. resolved locals slots a >>= λ u. resolved locals slots b >>= λ v. Ok (tree.Sel t u v)) x h in
      let u = bind_ok (resolved locals slots a) (λ u. resolved locals slots b >>= λ v. Ok (tree.Sel t.0 u v)) x t.2 in
      let v = bind_ok (resolved locals slots b) (λ v. Ok (tree.Sel t.0 u.0 v)) x u.2 in
      let q = resolved_is c t.0 t.1 in
      let r = resolved_is a u.0 u.1 in
      let s = resolved_is b v.0 v.1 in
      subst (IsResolved (length slots) (length locals) (Sel c a b)) (same_ok (tree.Sel t.0 u.0 v.0) x v.2) (record {
        nodes = omega (arith, q.nodes, r.nodes, s.nodes);
        brackets = omega (arith, q.brackets, r.brackets, s.brackets);
        scoped = (q.scoped, r.scoped, s.scoped);
      })

-- a number that a local has or gets
pub record IsNumbered (name : Name) (locals : List Name) (l : ℕ) (locals' : List Name) : Type 0 where
  pub next : l ≤ length locals
  pub count : max (length locals) (l + 1) ≡ length locals'
  pub distinct : AreDistinct locals → AreDistinct locals'

pub numbered_is : (name : Name) (locals : List Name) (o : Option ℕ) → index_of name locals ≡ o → IsNumbered name locals (numbered name locals o).0 (numbered name locals o).1
numbered_is name locals (Some i) e =
    let r = found_first name locals i e in
    record { next = omega (arith, r.within); count = omega (arith, r.within); distinct = λ d. d }
numbered_is name locals None e = record {
  next = omega arith;
  count = omega (arith, length-append locals (name ∷ []));
  distinct = λ d. all_pairs_push (λ a b. a ≢ b) locals name d (differs 0 name locals e);
}
