-- Lines that pass their tests are read, one after another.
use Rattle.std.proofs.Common.{◌≡◌, ℕ, Bool, true, false, not, List, [], ◌∷◌, ◌++◌, map, Some, None, Ok, refl, sym, ap, subst, ◌∙◌, append_assoc}
use Rattle.std.specs.Prelude.{◌==◌, ◌&&◌, IsTrue}
use Rattle.std.specs.List.{list_all}
use Rattle.std.proofs.lemmas.List.{append-nil}
use Rattle.pyr_lex.specs.declared.token.Token.{Token}
use Rattle.pyr_lex.specs.Token.{AreTokens}
use Rattle.pyr_lex.specs.Reading.{tokens_of}
use Rattle.pyr_lex.specs.Spacing.{canonical_line, is_tight}
use Rattle.pyr_lex.proofs.Written.{written_is_read}
use Rattle.pyr_graphtext.specs.Lines.{lines}
use Rattle.pyr_graphtext.specs.Line.{Line, tokens_of_line}
use Rattle.pyr_graphtext.specs.Earlier.{stage_of}
use Rattle.pyr_graphtext.specs.Faults.{is_outside, fault_behind}
use Rattle.pyr_graphtext.specs.Outcome.{IsShallow, IsOutcome}
use Rattle.pyr_graphtext.specs.FirstFault.{Say, onto, IsFine}
use Rattle.pyr_graphtext.specs.Canonical.{text_of, AreLineTokens}
use Rattle.pyr_graphtext.proofs.OneOutcome.{line_outcome}

-- what stands before, the newest first, once these were read
abbrev pub after : {X : Type 0} → List X → List X → List X
after older [] = older
after older (x ∷ xs) = after (x ∷ older) xs

pub after-append : {X : Type 0} (older xs ys : List X) → after older (xs ++ ys) ≡ after (after older xs) ys
after-append older [] ys = refl
after-append older (x ∷ xs) ys = after-append (x ∷ older) xs ys

-- none of these lines is faulty behind the ones before
abbrev pub Pass : List Line → List Line → Type 0
Pass said [] = Unit {0}
Pass said (l ∷ ls) =
    (fault_behind said l ≡ None) × IsShallow (is_outside (stage_of said)) (tokens_of_line l) × Pass (l ∷ said) ls

pub Pass-append : (said xs ys : List Line) → Pass said xs → Pass (after said xs) ys → Pass said (xs ++ ys)
Pass-append said [] ys p q = q
Pass-append said (x ∷ xs) ys p q = (p.0, p.1, Pass-append (x ∷ said) xs ys p.2 q)

-- the bytes of a line
abbrev pub line_bytes : Line → List ℕ
line_bytes l = canonical_line (tokens_of_line l)

-- a byte that is no line feed
abbrev is_inner : ℕ → Bool
is_inner b = not (b == 10)

inner_parts : (b : ℕ) (bs : List ℕ) → IsTrue (list_all is_inner (b ∷ bs)) → ((b == 10) ≡ false) × IsTrue (list_all is_inner bs)
inner_parts b bs h = by_test (b == 10) h where
  by_test : (t : Bool) → IsTrue (not t && list_all is_inner bs) → (t ≡ false) × IsTrue (list_all is_inner bs)
  by_test true h = absurd (let s : false ≡ true = h in cc)
  by_test false h = (refl, h)

cut_line : (l rest : List ℕ) → IsTrue (list_all is_inner l) → lines (l ++ 10 ∷ rest) ≡ l ∷ lines rest
unfolding lines
cut_line [] rest h = refl
cut_line (b ∷ bs) rest h =
    let parts = inner_parts b bs h in
    rw (parts.0, cut_line bs rest parts.1) refl

no_lines : lines [] ≡ []
unfolding lines
no_lines = refl

-- a canonical text has these lines
pub cut_text : (ls : List Line) → AreLineTokens ls → lines (text_of ls) ≡ map line_bytes ls
cut_text [] h = no_lines
cut_text (l ∷ ls) h =
    ap lines (append_assoc (line_bytes l) (10 ∷ []) (text_of ls))
    ∙ cut_line (line_bytes l) (text_of ls) (written_is_read.one_line is_tight (tokens_of_line l) h.0)
    ∙ ap (λ (rest : List (List ℕ)). line_bytes l ∷ rest) (cut_text ls h.1)

same_tokens : (ts us : List Token) → Some ts ≡ Some us → ts ≡ us
same_tokens ts us e = cc

-- a line that passes its tests is read
line_read : (said : List Line) (l : Line) → AreTokens (tokens_of_line l) → fault_behind said l ≡ None → IsShallow (is_outside (stage_of said)) (tokens_of_line l) → IsOutcome said (line_bytes l) (Ok l)
line_read said l are fine shallow =
    let read : tokens_of (line_bytes l) ≡ Some (tokens_of_line l) = written_is_read.canonical (tokens_of_line l) are in
    record {
      no_tokens = λ none. absurd (let s : None ≡ Some (tokens_of_line l) = sym none ∙ read in cc);
      tokens = λ ts is. subst (λ us. Rattle.pyr_graphtext.specs.Outcome.IsTokensOutcome said us (Ok l)) (same_tokens (tokens_of_line l) ts (sym read ∙ is)) (line_outcome said l shallow fine);
    }

say_after : (older : List (List ℕ)) (said ls : List Line) → Say older said → AreLineTokens ls → Pass said ls → Say (after older (map line_bytes ls)) (after said ls)
say_after older said [] say are pass = say
say_after older said (l ∷ ls) say are pass =
    say_after (line_bytes l ∷ older) (l ∷ said) ls (say, line_read said l are.0 pass.0 pass.1) are.1 pass.2

onto_after : (older xs later : List (List ℕ)) → onto (after older xs) later ≡ onto older (xs ++ later)
onto_after older [] later = refl
onto_after older (x ∷ xs) later = onto_after (x ∷ older) xs later

-- a canonical text of lines that pass their tests is fine, where no task is open at its end
pub read_fine : (ls : List Line) → AreLineTokens ls → Pass [] ls → IsTrue (is_outside (stage_of (after [] ls))) → IsFine (text_of ls) (after [] ls)
read_fine ls are pass closed = record {
  older = after [] (map line_bytes ls);
  parts = cut_text ls are ∙ sym (append-nil (map line_bytes ls)) ∙ sym (onto_after [] (map line_bytes ls) []);
  fine = say_after [] [] ls tt are pass;
  closed = closed;
}
