-- The reading of a line of one of the forms by its tokens. It computes what `plain_tokens` says;
-- private contracts alone cite it.
use Rattle.std.specs.Prelude.{◌≡◌, ℕ, List, [], ◌∷◌, Option, Some, None, Result, Ok, Err}
use Rattle.pyr_num.specs.declared.name.Name.{Name}
use Rattle.pyr_lex.specs.declared.token.Token.{Token}
use Rattle.pyr_lex.specs.declared.token.Token.TheVariants as tokens
use Rattle.pyr_lex.specs.declared.word.Word.{Word}
use Rattle.pyr_lex.specs.declared.word.Word.TheVariants as words
use Rattle.pyr_graphtext.specs.declared.form.Form.{Form}
use Rattle.pyr_graphtext.specs.declared.form.Form.TheVariants as forms
use Rattle.pyr_graphtext.specs.declared.line_fault.LineFault.{LineFault}
use Rattle.pyr_graphtext.specs.declared.line_fault.LineFault.TheVariants.{Text, Memory}

infixl 10 ◌>>=◌
abbrev pub ◌>>=◌ : {A B : Type 0} → Option A → (A → Option B) → Option B
None >>= f = None
(Some x) >>= f = f x

-- What a function returned, seen by view, is what reading gives, unless memory ran out.
abbrev pub Gives : {X Y : Type 0} → (X → Y) → Result X LineFault → Option Y → Type 0
Gives view (Ok x) read = read ≡ Some (view x)
Gives view (Err Text) read = read ≡ None
Gives view (Err Memory) read = Unit {0}
Gives view (Err fault) read = ⊥

abbrev pub name_in : Token → Option Name
name_in (tokens.Name name) = Some name
name_in token = None

abbrev pub number_in : Token → Option ℕ
number_in (tokens.Number number) = Some number
number_in token = None

unfoldable pub data_form : List Token → Option Form
data_form (name ∷ words ∷ comm ∷ []) = do
  n ← name_in name
  w ← number_in words
  c ← number_in comm
  Some (forms.Data n w c)
data_form ts = None

unfoldable pub task_form : List Token → Option Form
task_form (name ∷ cost ∷ []) = do
  n ← name_in name
  c ← number_in cost
  Some (forms.Task n c)
task_form ts = None

unfoldable pub print_form : List Token → Option Form
print_form (name ∷ []) = do
  n ← name_in name
  Some (forms.Print n)
print_form ts = None

unfoldable pub end_form : List Token → Option Form
end_form [] = Some forms.End
end_form ts = None

-- the names that tokens are, where all are names
abbrev pub names_in : List Token → Option (List Name)
names_in [] = Some []
names_in (t ∷ ts) = do
  n ← name_in t
  ns ← names_in ts
  Some (n ∷ ns)

-- the form of a line that begins with a word, by the tokens behind it
unfoldable pub worded_form : Word → List Token → Option Form
worded_form words.Data ts = data_form ts
worded_form words.Task ts = task_form ts
worded_form words.Reads ts = names_in ts >>= λ ns. Some (forms.Reads ns)
worded_form words.Writes ts = names_in ts >>= λ ns. Some (forms.Writes ns)
worded_form words.End ts = end_form ts
worded_form words.Print ts = print_form ts
worded_form word ts = None

-- the form of a line by its first token and those behind it
unfoldable pub form_behind : Token → List Token → Option Form
form_behind (tokens.Word word) ts = worded_form word ts
form_behind token ts = None
