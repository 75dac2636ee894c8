use Rattle.std.proofs.Common.{◌≡◌, ℕ, zero, suc, ◌+◌, ◌≤◌, List, [], ◌∷◌, ◌++◌, length, replicate, refl, ap, ◌∙◌, arith}
use Rattle.std.proofs.lemmas.List.{length-replicate, replicate_more}
use Rattle.pyr_graphtext.specs.Running.{words_of}
use Rattle.pyr_graphtext.proofs.running.no_words.Goals as goal

-- lists without a word
none_in : (n d : ℕ) → words_of (replicate n []) d ≡ []
none_in zero d = refl
none_in (suc n) zero = refl
none_in (suc n) (suc d) = none_in n d

one_more : (n : ℕ) (table pushed : List (List ℕ)) (list : List ℕ) → table ≡ replicate n [] → list ≡ [] → pushed ≡ table ++ list ∷ [] → pushed ≡ replicate (n + 1) []
one_more n table pushed list so_far empty push =
    push ∙ ap (λ (t : List (List ℕ)). t ++ list ∷ []) so_far ∙ ap (λ (l : List ℕ). replicate n [] ++ l ∷ []) empty ∙ replicate_more n []

pub loop-datum-init : goal.loop-datum-init
loop-datum-init c = c.in_ok-table.ensures.items

pub loop-datum-preserved : goal.loop-datum-preserved
loop-datum-preserved c = one_more c.loop-datum._datum c.loop-datum.table.items c.push.new.self.items c.new.result c.loop-datum.invariant c.new.ensures c.in_ok-push.ensures.items

pub returns : goal.returns
returns c =
    let table : c.from_vec.result ≡ replicate c.loop-datum._datum [] = c.from_vec.ensures ∙ c.loop-datum.invariant in
    let all : c.loop-datum._datum ≡ c.args.count = omega (arith, c.loop-datum-test.false, c.loop-datum.auto._datum-end) in
    (ap (λ (t : List (List ℕ)). length t) table ∙ length-replicate {A = List ℕ} c.loop-datum._datum [] ∙ all, λ d. ap (λ (t : List (List ℕ)). words_of t d) table ∙ none_in c.loop-datum._datum d)
