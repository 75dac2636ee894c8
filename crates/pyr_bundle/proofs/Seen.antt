-- What a set holds of the things seen so far.
use Rattle.std.proofs.Common.{◌≡◌, ℕ, ◌+◌, ◌<◌, ◌≤◌, Bool, true, false, not, ◌||◌, ◌&&◌, ◌==◌, cond, List, [], length, take, get_or, bytes_eq, refl, sym, ap, ◌∙◌, arith}
use Rattle.std.specs.Prelude.{Some, None}
use Rattle.std.specs.List.{list_any}
use Rattle.std.proofs.lemmas.List.{get_or-map}
use Rattle.std.proofs.lemmas.List.Folds.{list_any_more}
use Rattle.std.proofs.lemmas.Option.{slice_get_within, get_or_from_slice_get, same_Some, none-some}
use Rattle.std.proofs.lemmas.List.{length-map, take_all}
use Rattle.pyr_bundle.specs.declared.raw_datum.RawDatum.{RawDatum}
use Rattle.pyr_bundle.specs.declared.raw_instr.RawInstr.{RawInstr}
use Rattle.pyr_bundle.specs.declared.raw_instr.RawInstr.TheVariants.{Recv, Exec, Send}
use Rattle.pyr_bundle.specs.Tables.{received, sent}
use Rattle.pyr_bundle.specs.Raw.{code_in}
use Rattle.pyr_bundle.specs.Laws.{names_of, is_new_name, is_send, is_new_send, is_receive, is_new_receive}
use Rattle.pyr_bundle.proofs.Scans.{cond_or}
use Rattle.pyr_bundle.proofs.Instrs.{IsAt}

-- one more of a list, where the set then holds what it held and this one
any_more : {X : Type 0} (p : X → Bool) (xs : List X) (i : ℕ) (x d : X) (before after : Bool) → i < length xs → get_or xs i d ≡ x → before ≡ list_any p (take i xs) → after ≡ cond (p x) true before → after ≡ list_any p (take (i + 1) xs)
any_more p xs i x d before after l e b a =
    a ∙ cond_or (p x) before ∙ ap (λ c. c || p x) b ∙ ap (λ y. list_any p (take i xs) || p y) (sym e) ∙ sym (list_any_more p xs i d l)

-- the name of a datum that a loop came to
pub name_at : (datums items : List RawDatum) (d : ℕ) (datum : RawDatum) → items ≡ datums → d < length items → datum ≡ get_or items d datum → (d < length (names_of datums)) × (get_or (names_of datums) d [] ≡ datum.name)
name_at datums items d datum e l r =
    let n = ap length e in
    let m = length-map datums (λ (x : RawDatum). x.name) in
    (omega arith, get_or-map (λ (x : RawDatum). x.name) datums d datum [] (omega arith) ∙ ap (λ (xs : List RawDatum). (get_or xs d datum).name) (sym e) ∙ ap (λ (x : RawDatum). x.name) (sym r))

pub name_more : (names : List (List ℕ)) (d : ℕ) (name : List ℕ) → (d < length names) × (get_or names d [] ≡ name) → (s n : List ℕ → Bool) →
    ((q : List ℕ) → s q ≡ list_any (λ e. bytes_eq e q) (take d names)) → ((q : List ℕ) → n q ≡ cond (bytes_eq name q) true (s q)) → (q : List ℕ) → n q ≡ list_any (λ e. bytes_eq e q) (take (d + 1) names)
name_more names d name at s n h u q =
    any_more (λ e. bytes_eq e q) names d name [] (s q) (n q) at.0 at.1 (h q) (u q)

pub name_new : (names : List (List ℕ)) (d : ℕ) (name : List ℕ) → (d < length names) × (get_or names d [] ≡ name) → (s : List ℕ → Bool) →
    ((q : List ℕ) → s q ≡ list_any (λ e. bytes_eq e q) (take d names)) → (added : Bool) → added ≡ not (s name) → is_new_name names d ≡ added
name_new names d name at s h added e =
    ap (λ x. not (list_any (λ y. bytes_eq y x) (take d names))) at.1 ∙ ap not (sym (h name)) ∙ sym e

-- one more instruction of a code
pub instr_seen : (code : List (List RawInstr)) (p i : ℕ) (instr : RawInstr) → IsAt code p i instr → (f : RawInstr → Bool) → list_any f (take (i + 1) (code_in code p)) ≡ (list_any f (take i (code_in code p)) || f instr)
instr_seen code p i instr at f =
    list_any_more f (code_in code p) i instr (slice_get_within (code_in code p) i instr at.is)
    ∙ ap (λ x. list_any f (take i (code_in code p)) || f x) (get_or_from_slice_get (code_in code p) i instr instr at.is)

or_assoc : (a b c : Bool) → ((a || b) || c) ≡ (a || (b || c))
or_assoc true b c = refl
or_assoc false b c = refl

or_false : (b : Bool) → (b || false) ≡ b
or_false true = refl
or_false false = refl

-- after a set takes the pair of a send
pub send_more : (code : List (List RawInstr)) (p i : ℕ) (instr : RawInstr) (pair : ℕ × ℕ) → IsAt code p i instr → sent instr ≡ Some pair → (before after : ℕ → ℕ → Bool) →
    ((q d : ℕ) → before q d ≡ (list_any (list_any (is_send q d)) (take p code) || list_any (is_send q d) (take i (code_in code p)))) →
    ((q d : ℕ) → after q d ≡ cond ((pair.0 == q) && (pair.1 == d)) true (before q d)) →
    (q d : ℕ) → after q d ≡ (list_any (list_any (is_send q d)) (take p code) || list_any (is_send q d) (take (i + 1) (code_in code p)))
send_more code p i (Send to e) pair at is before after h u q d =
    let same : (to, e) ≡ pair = same_Some _ _ is in
    u q d ∙ cond_or ((pair.0 == q) && (pair.1 == d)) (before q d) ∙ ap (λ (x : ℕ × ℕ). before q d || ((x.0 == q) && (x.1 == d))) (sym same)
    ∙ ap (λ c. c || ((to == q) && (e == d))) (h q d)
    ∙ or_assoc (list_any (list_any (is_send q d)) (take p code)) (list_any (is_send q d) (take i (code_in code p))) ((to == q) && (e == d))
    ∙ ap (λ c. list_any (list_any (is_send q d)) (take p code) || c) (sym (instr_seen code p i (Send to e) at (is_send q d)))
send_more code p i (Recv from e) pair at is before after h u q d = absurd (none-some pair is)
send_more code p i (Exec t) pair at is before after h u q d = absurd (none-some pair is)

pub send_new : (code : List (List RawInstr)) (p i : ℕ) (instr : RawInstr) (pair : ℕ × ℕ) → sent instr ≡ Some pair → (seen : ℕ → ℕ → Bool) →
    ((q d : ℕ) → seen q d ≡ (list_any (list_any (is_send q d)) (take p code) || list_any (is_send q d) (take i (code_in code p)))) → (added : Bool) → added ≡ not (seen pair.0 pair.1) → is_new_send code p i (Some instr) ≡ added
send_new code p i (Send to e) pair is seen h added a =
    let same : (to, e) ≡ pair = same_Some _ _ is in
    sym (a ∙ ap (λ (x : ℕ × ℕ). not (seen x.0 x.1)) (sym same) ∙ ap not (h to e))
send_new code p i (Recv from e) pair is seen h added a = absurd (none-some pair is)
send_new code p i (Exec t) pair is seen h added a = absurd (none-some pair is)

-- an instruction that isn't one of these
other_more : (code : List (List RawInstr)) (p i : ℕ) (instr : RawInstr) → IsAt code p i instr → (f : RawInstr → Bool) → f instr ≡ false → list_any f (take (i + 1) (code_in code p)) ≡ list_any f (take i (code_in code p))
other_more code p i instr at f e =
    instr_seen code p i instr at f ∙ ap (λ c. list_any f (take i (code_in code p)) || c) e ∙ or_false (list_any f (take i (code_in code p)))

pub other_send : (code : List (List RawInstr)) (p i q d : ℕ) (instr : RawInstr) → IsAt code p i instr → sent instr ≡ None → list_any (is_send q d) (take (i + 1) (code_in code p)) ≡ list_any (is_send q d) (take i (code_in code p))
other_send code p i q d (Send to e) at is = absurd (none-some _ (sym is))
other_send code p i q d (Exec t) at is = other_more code p i (Exec t) at (is_send q d) refl
other_send code p i q d (Recv from e) at is = other_more code p i (Recv from e) at (is_send q d) refl

pub other_send_new : (code : List (List RawInstr)) (p i : ℕ) (instr : RawInstr) → sent instr ≡ None → is_new_send code p i (Some instr) ≡ true
other_send_new code p i (Send to e) is = absurd (none-some _ (sym is))
other_send_new code p i (Exec t) is = refl
other_send_new code p i (Recv from e) is = refl

-- after a set takes the datum of a receive
pub receive_more : (code : List (List RawInstr)) (p i : ℕ) (instr : RawInstr) (e : ℕ) → IsAt code p i instr → received instr ≡ Some e → (before after : ℕ → Bool) →
    ((d : ℕ) → before d ≡ list_any (is_receive d) (take i (code_in code p))) → ((d : ℕ) → after d ≡ cond (e == d) true (before d)) →
    (d : ℕ) → after d ≡ list_any (is_receive d) (take (i + 1) (code_in code p))
receive_more code p i (Recv from x) e at is before after h u d =
    u d ∙ cond_or (e == d) (before d) ∙ ap (λ y. before d || (y == d)) (sym (same_Some _ _ is)) ∙ ap (λ c. c || (x == d)) (h d) ∙ sym (instr_seen code p i (Recv from x) at (is_receive d))
receive_more code p i (Exec t) e at is before after h u d = absurd (none-some e is)
receive_more code p i (Send to x) e at is before after h u d = absurd (none-some e is)

pub receive_new : (code : List (List RawInstr)) (p i : ℕ) (instr : RawInstr) (e : ℕ) → received instr ≡ Some e → (seen : ℕ → Bool) →
    ((d : ℕ) → seen d ≡ list_any (is_receive d) (take i (code_in code p))) → (added : Bool) → added ≡ not (seen e) → is_new_receive code p i (Some instr) ≡ added
receive_new code p i (Recv from x) e is seen h added a =
    sym (a ∙ ap (λ y. not (seen y)) (sym (same_Some _ _ is)) ∙ ap not (h x))
receive_new code p i (Exec t) e is seen h added a = absurd (none-some e is)
receive_new code p i (Send to x) e is seen h added a = absurd (none-some e is)

pub other_receive : (code : List (List RawInstr)) (p i d : ℕ) (instr : RawInstr) → IsAt code p i instr → received instr ≡ None → list_any (is_receive d) (take (i + 1) (code_in code p)) ≡ list_any (is_receive d) (take i (code_in code p))
other_receive code p i d (Recv from e) at is = absurd (none-some e (sym is))
other_receive code p i d (Exec t) at is = other_more code p i (Exec t) at (is_receive d) refl
other_receive code p i d (Send to e) at is = other_more code p i (Send to e) at (is_receive d) refl

pub other_receive_new : (code : List (List RawInstr)) (p i : ℕ) (instr : RawInstr) → received instr ≡ None → is_new_receive code p i (Some instr) ≡ true
other_receive_new code p i (Recv from e) is = absurd (none-some e (sym is))
other_receive_new code p i (Exec t) is = refl
other_receive_new code p i (Send to e) is = refl

-- one more processor
pub sends_more : (code : List (List RawInstr)) (p i : ℕ) (f : RawInstr → Bool) → p < length code → length (code_in code p) ≤ i →
    (list_any (list_any f) (take p code) || list_any f (take i (code_in code p))) ≡ list_any (list_any f) (take (p + 1) code)
sends_more code p i f l k =
    ap (λ (x : List RawInstr). list_any (list_any f) (take p code) || list_any f x) (take_all i (code_in code p) k) ∙ sym (list_any_more (list_any f) code p [] l)
