-- Tokens are those of one line at most, and it can be told whether they are.
use Rattle.std.proofs.Common.{◌≡◌, Bool, true, false, inl, inr, List, [], ◌∷◌, map, Option, Some, None, refl, sym, ap, ◌∙◌}
use Rattle.std.specs.Prelude.{◌≢◌, ◌⊎◌, IsTrue}
use Rattle.pyr_num.specs.declared.name.Name.{Name}
use Rattle.pyr_lex.specs.declared.token.Token.{Token}
use Rattle.pyr_lex.specs.declared.token.Token.TheVariants as tokens
use Rattle.pyr_lex.specs.declared.word.Word.{Word}
use Rattle.pyr_lex.specs.declared.word.Word.TheVariants as words
use Rattle.pyr_body.specs.Written.{WrittenLine, Set, Put, For, Done}
use Rattle.pyr_body.specs.Spelling.{line_tokens}
use Rattle.pyr_body.proofs.LineLemmas.{line_is_unique, line_is_decided}
use Rattle.pyr_graphtext.specs.declared.form.Form.{Form}
use Rattle.pyr_graphtext.specs.declared.form.Form.TheVariants as forms
use Rattle.pyr_graphtext.specs.Line.{Line, Blank, Plain, Statement, plain_tokens, tokens_of_line}
use Rattle.pyr_graphtext.specs.FormReading.{◌>>=◌, name_in, number_in, names_in, data_form, task_form, print_form, end_form, worded_form, form_behind}
use Rattle.pyr_graphtext.specs.Outcome.{is_statement, IsShallow}

-- the form that tokens are
abbrev pub form_in : List Token → Option Form
form_in [] = None
form_in (t ∷ ts) = form_behind t ts

names_again : (names : List Name) → names_in (map tokens.Name names) ≡ Some names
names_again [] = refl
names_again (name ∷ names) = ap (λ (o : Option (List Name)). o >>= λ (ns : List Name). Some (name ∷ ns)) (names_again names)

pub form_again : (f : Form) → form_in (plain_tokens f) ≡ Some f
unfolding form_behind worded_form data_form task_form end_form print_form
form_again (forms.Data name length comm) = refl
form_again (forms.Task name cost) = refl
form_again (forms.Reads names) = ap (λ (o : Option (List Name)). o >>= λ (ns : List Name). Some (forms.Reads ns)) (names_again names)
form_again (forms.Writes names) = ap (λ (o : Option (List Name)). o >>= λ (ns : List Name). Some (forms.Writes ns)) (names_again names)
form_again forms.End = refl
form_again (forms.Print name) = refl

some_names : (o : Option (List Name)) (form : List Name → Form) (f : Form) → (o >>= λ (ns : List Name). Some (form ns)) ≡ Some f → (ns : List Name) × (o ≡ Some ns) × (f ≡ form ns)
some_names (Some ns) form f e = (ns, refl, (let s : form ns ≡ f = cc in sym s))
some_names None form f e = absurd (let s : None ≡ Some f = e in cc)

more_names : (name : Name) (o : Option (List Name)) (ns : List Name) → (o >>= λ (ms : List Name). Some (name ∷ ms)) ≡ Some ns → (ms : List Name) × (o ≡ Some ms) × (ns ≡ name ∷ ms)
more_names name (Some ms) ns e = (ms, refl, (let s : name ∷ ms ≡ ns = cc in sym s))
more_names name None ns e = absurd (let s : None ≡ Some ns = e in cc)

names_sound : (ts : List Token) (names : List Name) → names_in ts ≡ Some names → ts ≡ map tokens.Name names
names_sound [] names e = let s : [] ≡ names = cc in ap (map tokens.Name) s
names_sound (tokens.Name name ∷ ts) names e =
    let m = more_names name (names_in ts) names e in
    ap (λ (us : List Token). tokens.Name name ∷ us) (names_sound ts m.0 m.1) ∙ ap (map tokens.Name) (sym m.2)
names_sound (t ∷ ts) names e = absurd (let s : None ≡ Some names = e in cc)

form_is : (f g : Form) (ts : List Token) → Some f ≡ Some g → ts ≡ plain_tokens f → ts ≡ plain_tokens g
form_is f g ts e h = let s : f ≡ g = cc in h ∙ ap plain_tokens s

no_form : {A : Type 0} (f : Form) → None ≡ Some f → A
no_form f e = absurd (let s : None ≡ Some f = e in cc)

data_sound : (ts : List Token) (f : Form) → data_form ts ≡ Some f → tokens.Word words.Data ∷ ts ≡ plain_tokens f
unfolding data_form
data_sound (a ∷ (b ∷ (c ∷ []))) f e = by_tokens a b c e where
  by_tokens : (a b c : Token) → (name_in a >>= λ n. number_in b >>= λ w. number_in c >>= λ m. Some (forms.Data n w m)) ≡ Some f → tokens.Word words.Data ∷ (a ∷ (b ∷ (c ∷ []))) ≡ plain_tokens f
  by_tokens (tokens.Name name) (tokens.Number length) (tokens.Number comm) e = form_is (forms.Data name length comm) f (tokens.Word words.Data ∷ (tokens.Name name ∷ (tokens.Number length ∷ (tokens.Number comm ∷ [])))) e refl
  by_tokens a b c e = no_form f e
data_sound ts f e = no_form f e

task_sound : (ts : List Token) (f : Form) → task_form ts ≡ Some f → tokens.Word words.Task ∷ ts ≡ plain_tokens f
unfolding task_form
task_sound (a ∷ (b ∷ [])) f e = by_tokens a b e where
  by_tokens : (a b : Token) → (name_in a >>= λ n. number_in b >>= λ c. Some (forms.Task n c)) ≡ Some f → tokens.Word words.Task ∷ (a ∷ (b ∷ [])) ≡ plain_tokens f
  by_tokens (tokens.Name name) (tokens.Number cost) e = form_is (forms.Task name cost) f (tokens.Word words.Task ∷ (tokens.Name name ∷ (tokens.Number cost ∷ []))) e refl
  by_tokens a b e = no_form f e
task_sound ts f e = no_form f e

end_sound : (ts : List Token) (f : Form) → end_form ts ≡ Some f → tokens.Word words.End ∷ ts ≡ plain_tokens f
unfolding end_form
end_sound [] f e = form_is forms.End f (tokens.Word words.End ∷ []) e refl
end_sound (t ∷ ts) f e = no_form f e

print_sound : (ts : List Token) (f : Form) → print_form ts ≡ Some f → tokens.Word words.Print ∷ ts ≡ plain_tokens f
unfolding print_form
print_sound (a ∷ []) f e = by_token a e where
  by_token : (a : Token) → (name_in a >>= λ n. Some (forms.Print n)) ≡ Some f → tokens.Word words.Print ∷ (a ∷ []) ≡ plain_tokens f
  by_token (tokens.Name name) e = form_is (forms.Print name) f (tokens.Word words.Print ∷ (tokens.Name name ∷ [])) e refl
  by_token a e = no_form f e
print_sound ts f e = no_form f e

word_sound : (word : Word) (ts : List Token) (f : Form) → worded_form word ts ≡ Some f → tokens.Word word ∷ ts ≡ plain_tokens f
unfolding worded_form
word_sound words.Data ts f e = data_sound ts f e
word_sound words.Task ts f e = task_sound ts f e
word_sound words.Reads ts f e =
    let n = some_names (names_in ts) (λ ns. forms.Reads ns) f e in
    ap (λ (us : List Token). tokens.Word words.Reads ∷ us) (names_sound ts n.0 n.1) ∙ ap plain_tokens (sym n.2)
word_sound words.Writes ts f e =
    let n = some_names (names_in ts) (λ ns. forms.Writes ns) f e in
    ap (λ (us : List Token). tokens.Word words.Writes ∷ us) (names_sound ts n.0 n.1) ∙ ap plain_tokens (sym n.2)
word_sound words.End ts f e = end_sound ts f e
word_sound words.Print ts f e = print_sound ts f e
word_sound word ts f e = no_form f e

pub form_sound : (ts : List Token) (f : Form) → form_in ts ≡ Some f → ts ≡ plain_tokens f
unfolding form_behind
form_sound (tokens.Word word ∷ ts) f e = word_sound word ts f e
form_sound ts f e = no_form f e

-- the first token is that of a line of a body
unfoldable pub begins_body : List Token → Bool
begins_body (tokens.Word words.Set ∷ ts) = true
begins_body (tokens.Word words.Put ∷ ts) = true
begins_body (tokens.Word words.For ∷ ts) = true
begins_body (tokens.Word words.Done ∷ ts) = true
begins_body ts = false

pub statement_begins : (l : WrittenLine) → begins_body (line_tokens l) ≡ true
unfolding begins_body
statement_begins (Set name e) = refl
statement_begins (Put name index e) = refl
statement_begins (For name count) = refl
statement_begins Done = refl

pub form_begins : (f : Form) → begins_body (plain_tokens f) ≡ false
unfolding begins_body
form_begins (forms.Data name length comm) = refl
form_begins (forms.Task name cost) = refl
form_begins (forms.Reads names) = refl
form_begins (forms.Writes names) = refl
form_begins forms.End = refl
form_begins (forms.Print name) = refl

-- such a line is a line of a body wherever it stands
pub body_is_statement : (outside : Bool) (ts : List Token) → begins_body ts ≡ true → IsTrue (is_statement outside ts)
unfolding begins_body
body_is_statement outside (tokens.Word words.Set ∷ ts) e = refl
body_is_statement outside (tokens.Word words.Put ∷ ts) e = refl
body_is_statement outside (tokens.Word words.For ∷ ts) e = refl
body_is_statement outside (tokens.Word words.Done ∷ ts) e = refl
body_is_statement outside ts e = absurd (let s : false ≡ true = e in cc)

some_plain : (f : Form) → [] ≡ plain_tokens f → ⊥
some_plain (forms.Data name length comm) e = cc
some_plain (forms.Task name cost) e = cc
some_plain (forms.Reads names) e = cc
some_plain (forms.Writes names) e = cc
some_plain forms.End e = cc
some_plain (forms.Print name) e = cc

some_statement : (l : WrittenLine) → [] ≡ line_tokens l → ⊥
some_statement (Set name e) h = cc
some_statement (Put name index e) h = cc
some_statement (For name count) h = cc
some_statement Done h = cc

apart : (f : Form) (l : WrittenLine) → plain_tokens f ≡ line_tokens l → ⊥
apart f l e = let s : false ≡ true = sym (form_begins f) ∙ ap begins_body e ∙ statement_begins l in cc

-- tokens are those of one line at most
pub line_is_one : (a b : Line) → tokens_of_line a ≡ tokens_of_line b → a ≡ b
line_is_one Blank Blank e = refl
line_is_one Blank (Plain g) e = absurd (some_plain g e)
line_is_one Blank (Statement m) e = absurd (some_statement m e)
line_is_one (Plain f) Blank e = absurd (some_plain f (sym e))
line_is_one (Plain f) (Plain g) e =
    let s : Some f ≡ Some g = sym (form_again f) ∙ ap form_in e ∙ form_again g in
    let t : f ≡ g = cc in
    ap Plain t
line_is_one (Plain f) (Statement m) e = absurd (apart f m e)
line_is_one (Statement l) Blank e = absurd (some_statement l (sym e))
line_is_one (Statement l) (Plain g) e = absurd (apart g l (sym e))
line_is_one (Statement l) (Statement m) e = ap Statement (line_is_unique l m e)

-- these tokens are those of a line, or of none
abbrev pub IsDecided : List Token → Type 0
IsDecided ts = ((l : Line) × (ts ≡ tokens_of_line l)) ⊎ ((l : Line) → ts ≢ tokens_of_line l)

none_of : (t : Token) (ts : List Token) → form_in (t ∷ ts) ≡ None → ((l : WrittenLine) → t ∷ ts ≢ line_tokens l) → (l : Line) → t ∷ ts ≢ tokens_of_line l
none_of t ts no_form no_statement Blank e = cc
none_of t ts no_form no_statement (Plain f) e = let s : None ≡ Some f = sym no_form ∙ ap form_in e ∙ form_again f in cc
none_of t ts no_form no_statement (Statement l) e = no_statement l e

-- where no limit on the depth is passed
pub line_decided : (outside : Bool) (ts : List Token) → IsShallow outside ts → IsDecided ts
line_decided outside [] shallow = inl (Blank, refl)
line_decided outside (t ∷ ts) shallow = by_form (form_in (t ∷ ts)) refl where
  by_statement : form_in (t ∷ ts) ≡ None → ((l : WrittenLine) × (t ∷ ts ≡ line_tokens l)) ⊎ ((l : WrittenLine) → t ∷ ts ≢ line_tokens l) → IsDecided (t ∷ ts)
  by_statement no_form (inl found) = inl (Statement found.0, found.1)
  by_statement no_form (inr none) = inr (none_of t ts no_form none)

  by_word : form_in (t ∷ ts) ≡ None → (b : Bool) → begins_body (t ∷ ts) ≡ b → IsDecided (t ∷ ts)
  by_word no_form true begins = by_statement no_form (line_is_decided (t ∷ ts) (shallow (body_is_statement outside (t ∷ ts) begins)))
  by_word no_form false begins = inr (none_of t ts no_form (λ l e. let s : false ≡ true = sym begins ∙ ap begins_body e ∙ statement_begins l in cc))

  by_form : (o : Option Form) → form_in (t ∷ ts) ≡ o → IsDecided (t ∷ ts)
  by_form (Some f) is = inl (Plain f, form_sound (t ∷ ts) f is)
  by_form None no_form = by_word no_form (begins_body (t ∷ ts)) refl
