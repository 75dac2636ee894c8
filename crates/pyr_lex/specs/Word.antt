-- The reserved words as they are written.
use Rattle.std.specs.Prelude.{List, [], ◌∷◌, ℕ, codes, Option, find, bytes_eq}
use Rattle.pyr_lex.specs.declared.word.Word.{Word}
use Rattle.pyr_lex.specs.declared.word.Word.TheVariants.{Data, Task, Reads, Writes, Set, Put, For, Done, End, Print, Frame, Min, Max}

-- the text of a word
abbrev pub word_text : Word → List ℕ
word_text Data = codes "data"
word_text Task = codes "task"
word_text Reads = codes "reads"
word_text Writes = codes "writes"
word_text Set = codes "set"
word_text Put = codes "put"
word_text For = codes "for"
word_text Done = codes "done"
word_text End = codes "end"
word_text Print = codes "print"
word_text Frame = codes "frame"
word_text Min = codes "min"
word_text Max = codes "max"

-- all words
abbrev pub words : List Word
words = Data ∷ Task ∷ Reads ∷ Writes ∷ Set ∷ Put ∷ For ∷ Done ∷ End ∷ Print ∷ Frame ∷ Min ∷ Max ∷ []

-- the word with this text, if one has it
abbrev pub word_of : List ℕ → Option Word
word_of text = find (λ w. bytes_eq (word_text w) text) words
