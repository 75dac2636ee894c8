-- Rows of edges: one more weight, and how often a task stands in a row.
use Rattle.std.proofs.Common.{◌≡◌, ◌≢◌, ℕ, suc, add-zero, zero-add, ◌+◌, ◌<◌, ◌≤◌, List, [], ◌∷◌, ◌++◌, length, get_or, take, map, cond, arith, refl, ap, sym, append_assoc}
use Rattle.std.specs.Prelude.{nat_eq, filter}
use Rattle.std.proofs.lemmas.List.{map-append, map_more, take_more, append-nil, length-take-le}
use Rattle.std.proofs.lemmas.List.Elements.{filter_more}
use Rattle.std.proofs.lemmas.List.Sums.{count_by_more_yes, count_by_more_no, sum_by-take-le}
use Rattle.pyr_graph.specs.declared.edge.Edge.{Edge}
use Rattle.pyr_graph.specs.Tables.{edge_of, added, turned, turned_from, times_in}
use Rattle.pyr_graph.proofs.ListLemmas.{nat_eq-same, nat_eq-apart}

-- a weight goes onto the last edge, where that leads to the task
pub added-same : (front : List Edge) (last : Edge) (t weight : ℕ) → last.task.0 ≡ t → added (front ++ last ∷ []) t weight ≡ front ++ edge_of t (last.weight + weight) ∷ []
added-same [] last t weight same = rw (nat_eq-same last.task.0 t same)
added-same (e ∷ []) last t weight same = rw (nat_eq-same last.task.0 t same)
added-same (e ∷ f ∷ front) last t weight same = ap (λ (row : List Edge). e ∷ row) (added-same (f ∷ front) last t weight same)

-- and makes an edge of its own elsewhere
pub added-other : (front : List Edge) (last : Edge) (t weight : ℕ) → last.task.0 ≢ t → added (front ++ last ∷ []) t weight ≡ (front ++ last ∷ []) ++ edge_of t weight ∷ []
added-other [] last t weight apart = rw (nat_eq-apart last.task.0 t apart)
added-other (e ∷ []) last t weight apart = rw (nat_eq-apart last.task.0 t apart)
added-other (e ∷ f ∷ front) last t weight apart = ap (λ (row : List Edge). e ∷ row) (added-other (f ∷ front) last t weight apart)

-- one edge more
pub times_in-more_same : (row : List Edge) (i t : ℕ) (d : Edge) → i < length row → (get_or row i d).task.0 ≡ t → times_in (take (i + 1) row) t ≡ times_in (take i row) t + 1
times_in-more_same row i t d inside same = count_by_more_yes (λ e. nat_eq e.task.0 t) row i d inside (nat_eq-same (get_or row i d).task.0 t same)

pub times_in-more_other : (row : List Edge) (i t : ℕ) (d : Edge) → i < length row → (get_or row i d).task.0 ≢ t → times_in (take (i + 1) row) t ≡ times_in (take i row) t
times_in-more_other row i t d inside apart = count_by_more_no (λ e. nat_eq e.task.0 t) row i d inside (nat_eq-apart (get_or row i d).task.0 t apart)

pub times_in-take_le : (row : List Edge) (i t : ℕ) → times_in (take i row) t ≤ times_in row t
times_in-take_le row i t = sum_by-take-le (λ e. cond (nat_eq e.task.0 t) 1 0) row i

-- the edges of a row, turned, with one edge more
pub turned-more_same : (from : ℕ) (row : List Edge) (i to : ℕ) (d : Edge) → i < length row → (get_or row i d).task.0 ≡ to
    → turned from (take (i + 1) row) to ≡ turned from (take i row) to ++ edge_of from (get_or row i d).weight ∷ []
turned-more_same from row i to d inside same =
    rw (filter_more (λ e. nat_eq e.task.0 to) row i d inside, nat_eq-same (get_or row i d).task.0 to same)
    (map-append (λ (e : Edge). edge_of from e.weight) (filter (λ e. nat_eq e.task.0 to) (take i row)) (get_or row i d ∷ []))

pub turned-more_other : (from : ℕ) (row : List Edge) (i to : ℕ) (d : Edge) → i < length row → (get_or row i d).task.0 ≢ to
    → turned from (take (i + 1) row) to ≡ turned from (take i row) to
turned-more_other from row i to d inside apart =
    rw (filter_more (λ e. nat_eq e.task.0 to) row i d inside, nat_eq-apart (get_or row i d).task.0 to apart, append-nil)

-- and with one row more
turned_from-push : (first : ℕ) (rows : List (List Edge)) (row : List Edge) (to : ℕ) → turned_from first (rows ++ row ∷ []) to ≡ turned_from first rows to ++ turned (first + length rows) row to
turned_from-push first [] row to = rw (append-nil, add-zero)
turned_from-push first (head ∷ rows) row to =
    let same : first + 1 + length rows ≡ first + suc (length rows) = omega arith in
    rw (turned_from-push (first + 1) rows row to, same) (sym (append_assoc (turned first head to) (turned_from (first + 1) rows to) (turned (first + suc (length rows)) row to)))

pub turned_from-more : (rows : List (List Edge)) (i to : ℕ) → i < length rows → turned_from 0 (take (i + 1) rows) to ≡ turned_from 0 (take i rows) to ++ turned i (get_or rows i []) to
turned_from-more rows i to inside =
    let many : length (take i rows) ≡ i = length-take-le i rows (omega arith) in
    rw (take_more rows i [] inside, turned_from-push 0 (take i rows) (get_or rows i []) to, many, zero-add)

-- one more row is counted
pub counts-more : (rows : List (List Edge)) (counts new : List ℕ) (i n : ℕ) (row : List Edge) → i < length rows → row ≡ get_or rows i row → n ≡ length row
    → counts ≡ map length (take i rows) → new ≡ counts ++ n ∷ [] → new ≡ map length (take (i + 1) rows)
counts-more rows counts new i n row inside is many so_far pushed =
    rw (pushed, so_far, many, map_more (λ (row : List Edge). length row) rows i row inside, ← is) refl
