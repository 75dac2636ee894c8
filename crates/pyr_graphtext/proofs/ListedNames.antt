-- The names that a line lists: the search from its end, and adding them to a table.
use Rattle.std.proofs.Common.{◌≡◌, ℕ, ◌+◌, ◌<◌, ◌≤◌, Bool, true, false, ◌||◌, not, List, [], ◌∷◌, ◌++◌, drop, length, get_or, Option, Some, None, Err, refl, sym, ap, subst, ◌∙◌, arith, append_assoc}
use Rattle.std.specs.Prelude.{bytes_eq, fold, nat_le, ◌&&◌}
use Rattle.std.specs.Option.{option_or}
use Rattle.std.proofs.lemmas.Slice.Eq.{bytes_eq-Decides}
use Rattle.std.proofs.lemmas.List.{drop_more, drop_all, append-nil}
use Rattle.std.proofs.lemmas.List.Folds.{list_any-append}
use Rattle.pyr_num.specs.declared.name.Name.{Name}
use Rattle.pyr_graphtext.specs.declared.line_fault.LineFault.{LineFault}
use Rattle.pyr_graphtext.specs.declared.line_fault.LineFault.TheVariants.{Text, Limit, Names, Memory}
use Rattle.pyr_graphtext.specs.declared.program_fault.NameKind.TheVariants.{Unknown, Duplicate, SecondWriter}
use Rattle.pyr_graphtext.specs.Statements.{unless, is_among, with_name}
use Rattle.pyr_num.specs.declared.limits.Quantity.TheVariants as quantities
use Rattle.pyr_num.specs.declared.limits.TheConstants.Limits.{WRITES}
use Rattle.pyr_graphtext.specs.declared.stage.Stage.{Stage}
use Rattle.pyr_graphtext.specs.Faults.{may_write, is_some_name, read_names_fault, written_names_fault, writes_fault}
use Rattle.pyr_graphtext.specs.NameTests.{name_fault}
use Rattle.pyr_graphtext.specs.Tells.{Tells}

-- names that are read are tested as names that are written, where nothing is written by others
pub read_names_are : (datums names : List Name) → read_names_fault datums names ≡ written_names_fault datums [] names
read_names_are datums [] = refl
read_names_are datums (n ∷ ns) =
    ap (λ (o : Option LineFault). unless (is_among datums n) (Names Unknown n) (unless (not (is_among ns n)) (Names Duplicate n) o)) (read_names_are datums ns)

same_name : (x y : Name) → bytes_eq x y ≡ true → x ≡ y
same_name x y e = (bytes_eq-Decides x y).0 e

-- a name that is equal to one of these is one of these
among_equal : (names : List Name) (name q : Name) → bytes_eq q name ≡ true → is_among names name ≡ true → is_among names q ≡ true
among_equal names name q e h = subst (λ (x : Name). is_among names x ≡ true) (sym (same_name q name e)) h

either : (a b : Bool) → (a || b) ≡ (b || a)
either true true = refl
either true false = refl
either false true = refl
either false false = refl

-- a name more
pub among_with : (names : List Name) (name q : Name) → is_among (with_name names name) q ≡ (bytes_eq q name || is_among names q)
among_with names name q = by_tests (is_among names name) refl (bytes_eq q name) refl where
  by_tests : (b : Bool) → is_among names name ≡ b → (e : Bool) → bytes_eq q name ≡ e → is_among (with_name names name) q ≡ (bytes_eq q name || is_among names q)
  by_tests true h true e = rw (h, e) (among_equal names name q e h)
  by_tests true h false e = rw (h, e) refl
  by_tests false h c e = rw h (list_any-append (bytes_eq q) names (name ∷ []) ∙ either (is_among names q) (bytes_eq q name || false) ∙ ap (λ (b : Bool). b || is_among names q) (or_false (bytes_eq q name))) where
    or_false : (b : Bool) → (b || false) ≡ b
    or_false true = refl
    or_false false = refl

unless_or : (a b c : Bool) (f g h : LineFault) (rest : Option LineFault)
    → option_or (unless a f (unless b g (unless c h None))) rest ≡ unless a f (unless b g (unless c h rest))
unless_or true true true f g h rest = refl
unless_or true true false f g h rest = refl
unless_or true false c f g h rest = refl
unless_or false b c f g h rest = refl

pub not_not : (b : Bool) → not (not b) ≡ b
not_not true = refl
not_not false = refl

-- The names from this place on are tested: the table holds them, and the fault is their first.
pub record IsChecked (datums others names : List Name) (at : ℕ) (later : List Name) (fault : Option LineFault) : Type 0 where
  pub within : at ≤ length names
  pub seen : (q : Name) → is_among later q ≡ is_among (drop at names) q
  pub first : fault ≡ written_names_fault datums others (drop at names)

pub IsChecked-start : (datums others names later : List Name) → later ≡ [] → IsChecked datums others names (length names) later None
IsChecked-start datums others names later e = record {
  within = omega arith;
  seen = λ q. rw (e, none) refl;
  first = rw none refl;
} where
  none : drop (length names) names ≡ []
  none = drop_all (length names) names (omega arith)

pub IsChecked-step : (datums others names later new : List Name) (at from : ℕ) (name : Name) (fault found : Option LineFault) (stands_later : Bool)
    → at < length names → from ≡ at + 1 → name ≡ get_or names at name → IsChecked datums others names from later fault
    → stands_later ≡ is_among later name → new ≡ with_name later name
    → found ≡ option_or (name_fault datums others stands_later name) fault
    → IsChecked datums others names at new found
IsChecked-step datums others names later new at from name fault found stands_later lt same is h stands grown told =
    let next : drop at names ≡ name ∷ drop from names =
    drop_more names at name lt ∙ ap (λ (n : Name). n ∷ drop (at + 1) names) (sym is) ∙ ap (λ (k : ℕ). name ∷ drop k names) (sym same) in
    let later_there : stands_later ≡ is_among (drop from names) name = stands ∙ h.seen name in
    record {
      within = omega arith;
      seen = λ q. ap (λ (t : List Name). is_among t q) grown ∙ among_with later name q ∙ ap (λ (b : Bool). bytes_eq q name || b) (h.seen q) ∙ ap (λ (t : List Name). is_among t q) (sym next);
      first = told
          ∙ ap (λ (b : Bool). option_or (name_fault datums others b name) fault) later_there
          ∙ ap (option_or (name_fault datums others (is_among (drop from names) name) name)) h.first
          ∙ unless_or (is_among datums name) (not (is_among (drop from names) name)) (not (is_among others name)) (Names Unknown name) (Names Duplicate name) (Names SecondWriter name) (written_names_fault datums others (drop from names))
          ∙ ap (written_names_fault datums others) (sym next);
    }

pub IsChecked-end : (datums others names later : List Name) (at : ℕ) (fault : Option LineFault) → at ≤ 0 → IsChecked datums others names at later fault
    → fault ≡ written_names_fault datums others names
IsChecked-end datums others names later at fault end h =
    let none : at ≡ 0 = omega arith in
    rw none at h.first

-- a fault that is told
pub tells_fault : (X : Type 0) (e : LineFault) (fault : Option LineFault) → fault ≡ Some e → Tells {X = X} (Err e) fault
tells_fault X Text fault h = h
tells_fault X (Limit which) fault h = h
tells_fault X (Names kind name) fault h = h
tells_fault X Memory fault h = tt

-- all names of a list, one after another
abbrev pub with_names : List Name → List Name → List Name
with_names names more = fold with_name names more

two_tests : (a b c : Bool) (f g h : LineFault) (rest : Option LineFault) → unless a f (unless b g (unless c h rest)) ≡ None → (a ≡ true) × (b ≡ true) × (c ≡ true) × (rest ≡ None)
two_tests true true true f g h rest e = (refl, refl, refl, e)
two_tests true true false f g h rest e = absurd cc
two_tests true false c f g h rest e = absurd cc
two_tests false b c f g h rest e = absurd cc

negated : (b : Bool) → not b ≡ true → b ≡ false
negated true e = absurd cc
negated false e = refl

or_no : (a b : Bool) → (a || b) ≡ false → (a ≡ false) × (b ≡ false)
or_no true b e = absurd cc
or_no false b e = (refl, e)

apart : (x y : Name) → bytes_eq x y ≡ false → bytes_eq y x ≡ false
apart x y e = by_test (bytes_eq y x) refl where
  by_test : (b : Bool) → bytes_eq y x ≡ b → bytes_eq y x ≡ false
  by_test false f = f
  by_test true f = absurd (let t : bytes_eq x y ≡ true = (bytes_eq-Decides x y).1 (sym (same_name y x f)) in cc)

-- what names are tested against may have a name more, where they don't hold it
more_others : (datums others names : List Name) (name : Name) → is_among names name ≡ false → written_names_fault datums others names ≡ None → written_names_fault datums (others ++ name ∷ []) names ≡ None
more_others datums others [] name none e = refl
more_others datums others (n ∷ ns) name none e =
    let parts = two_tests (is_among datums n) (not (is_among ns n)) (not (is_among others n)) (Names Unknown n) (Names Duplicate n) (Names SecondWriter n) (written_names_fault datums others ns) e in
    let here = or_no (bytes_eq name n) (is_among ns name) none in
    let there : is_among (others ++ name ∷ []) n ≡ false = list_any-append (bytes_eq n) others (name ∷ []) ∙ rw (negated (is_among others n) parts.2, apart name n here.0) refl in
    let rest : written_names_fault datums (others ++ name ∷ []) ns ≡ None = more_others datums others ns name here.1 parts.3 in
    rw (parts.0, parts.1, there, rest) refl

-- names without fault go behind the others
pub with_names_are : (datums others names : List Name) → written_names_fault datums others names ≡ None → with_names others names ≡ others ++ names
with_names_are datums others [] e = simp append-nil
with_names_are datums others (n ∷ ns) e =
    let parts = two_tests (is_among datums n) (not (is_among ns n)) (not (is_among others n)) (Names Unknown n) (Names Duplicate n) (Names SecondWriter n) (written_names_fault datums others ns) e in
    let fresh : with_name others n ≡ others ++ n ∷ [] = rw (negated (is_among others n) parts.2) refl in
    ap (λ (t : List Name). with_names t ns) fresh
    ∙ with_names_are datums (others ++ n ∷ []) ns (more_others datums others ns n (negated (is_among ns n) parts.1) parts.3)
    ∙ append_assoc others (n ∷ []) ns

-- the names of a line `writes` without fault have none
pub written_names_are : (stage : Stage) (datums others names : List Name) → writes_fault stage datums others names ≡ None → written_names_fault datums others names ≡ None
unfolding writes_fault
written_names_are stage datums others names e = by_tests (may_write stage && is_some_name names) (nat_le (length names) WRITES) e where
  by_tests : (a b : Bool) → unless a Text (unless b (Limit quantities.Writes) (written_names_fault datums others names)) ≡ None → written_names_fault datums others names ≡ None
  by_tests true true h = h
  by_tests true false h = absurd cc
  by_tests false b h = absurd cc
