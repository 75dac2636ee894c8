-- The lines of the printed data, one after another.
use Rattle.std.proofs.Common.{◌≡◌, ℕ, ◌+◌, ◌<◌, ◌≤◌, List, [], ◌∷◌, ◌++◌, length, map, take, drop, get_or, refl, sym, ap, ◌∙◌, arith, append_assoc}
use Rattle.std.specs.List.{flat_map}
use Rattle.std.proofs.lemmas.List.{drop_more, drop_all, append-nil, take_more, map_push, flat_map_more}
use Rattle.pyr_num.specs.declared.name.Name.{Name}
use Rattle.pyr_top.specs.OutputsText.{output_line, output_lines}

-- the lines from a place on
abbrev pub lines_left : List Name → List (List ℕ) → ℕ → List ℕ
lines_left names lists i = output_lines (drop i names) (drop i lists)

-- this text, and the lines from the place on, are all lines
pub record IsWritten (names : List Name) (lists : List (List ℕ)) (i : ℕ) (text : List ℕ) : Type 0 where
  pub within : i ≤ length lists
  pub all : text ++ lines_left names lists i ≡ output_lines names lists

pub IsWritten-start : (names : List Name) (lists : List (List ℕ)) (text : List ℕ) → text ≡ [] → IsWritten names lists 0 text
IsWritten-start names lists text none = record { within = omega arith; all = rw none refl }

pub IsWritten-step : (names : List Name) (lists : List (List ℕ)) (i : ℕ) (name : Name) (words text new : List ℕ) → i < length lists → length lists ≡ length names
    → name ≡ get_or names i name → words ≡ get_or lists i words → new ≡ text ++ output_line name words
    → IsWritten names lists i text → IsWritten names lists (i + 1) new
IsWritten-step names lists i name words text new below same is_name is_words put w =
    let names_here : drop i names ≡ name ∷ drop (i + 1) names = drop_more names i name (omega (arith, below, same)) ∙ ap (λ (n : Name). n ∷ drop (i + 1) names) (sym is_name) in
    let values : drop i lists ≡ words ∷ drop (i + 1) lists = drop_more lists i words below ∙ ap (λ (l : List ℕ). l ∷ drop (i + 1) lists) (sym is_words) in
    let left : lines_left names lists i ≡ output_line name words ++ lines_left names lists (i + 1) = λ k. output_lines (names_here k) (values k) in
    record {
      within = omega (arith, below);
      all = ap (λ (t : List ℕ). t ++ lines_left names lists (i + 1)) put ∙ append_assoc text (output_line name words) (lines_left names lists (i + 1)) ∙ ap (λ (t : List ℕ). text ++ t) (sym left) ∙ w.all;
    }

no_values : (names : List Name) → output_lines names [] ≡ []
no_values [] = refl
no_values (name ∷ names) = refl

pub IsWritten-end : (names : List Name) (lists : List (List ℕ)) (i : ℕ) (text : List ℕ) → length lists ≤ i → IsWritten names lists i text → text ≡ output_lines names lists
IsWritten-end names lists i text end w =
    let none : lines_left names lists i ≡ [] = ap (λ (ls : List (List ℕ)). output_lines (drop i names) ls) (drop_all i lists (omega (arith, end))) ∙ no_values (drop i names) in
    sym (append-nil text) ∙ ap (λ (t : List ℕ). text ++ t) (sym none) ∙ w.all

-- what one element more gives is written behind what those before it give
pub written_more : {X : Type 0} (f : X → List ℕ) (start old new : List ℕ) (xs : List X) (i : ℕ) (d : X) → i < length xs → old ≡ start ++ flat_map f (take i xs) → new ≡ old ++ f (get_or xs i d) → new ≡ start ++ flat_map f (take (i + 1) xs)
written_more f start old new xs i d below so_far put =
    put ∙ ap (λ l. l ++ f (get_or xs i d)) so_far ∙ flat_map_more f start (take i xs) (get_or xs i d) ∙ ap (λ l. start ++ flat_map f l) (sym (take_more xs i d below))

-- one name more
pub names_more : {X : Type 0} (f : X → Name) (old new : List Name) (xs : List X) (i : ℕ) (d : X) → i < length xs → old ≡ map f (take i xs) → new ≡ old ++ f (get_or xs i d) ∷ [] → new ≡ map f (take (i + 1) xs)
names_more f old new xs i d below so_far put =
    put ∙ ap (λ (l : List Name). l ++ f (get_or xs i d) ∷ []) so_far ∙ sym (map_push f (take i xs) (get_or xs i d)) ∙ ap (λ l. map f l) (sym (take_more xs i d below))
