-- Numbers put in their places, from the greatest to the least.
use Rattle.std.proofs.Common.{◌≡◌, ℕ, ◌+◌, ◌<◌, ◌≤◌, true, false, List, [], ◌∷◌, ◌++◌, length, take, drop, map, refl, sym, ap, subst, ◌∙◌, arith, add-one, append_assoc, length-append, slice_index_or, nat_le}
use Rattle.std.specs.List.{insert}
use Rattle.std.proofs.Math.Seq.{drop-cons, take-suc}
use Rattle.std.proofs.lemmas.List.{append-nil}
use Rattle.std.proofs.lemmas.Bool.Decides.{nat_tests}
use Rattle.ante_pack.specs.declared.names.Name.{Name}
use Rattle.ante_fork.specs.Finality.{insert_down, descending}

le_true : (m n : ℕ) → m ≤ n → nat_le m n ≡ true
le_true m n h = grind (arith, nat_tests)

le_false : (m n : ℕ) → n < m → nat_le m n ≡ false
le_false m n h = grind (arith, nat_tests)

cut : (ms : List ℕ) (at : ℕ) → at < length ms → drop at ms ≡ slice_index_or ms at 0 ∷ drop (at + 1) ms
cut ms at lt = rw add-one (drop-cons ms at 0 lt)

more : (ms : List ℕ) (at : ℕ) → at < length ms → take (at + 1) ms ≡ take at ms ++ slice_index_or ms at 0 ∷ []
more ms at lt = rw add-one (take-suc ms at 0 lt)

down_here : (n m : ℕ) (ms : List ℕ) → m ≤ n → insert_down n (m ∷ ms) ≡ n ∷ m ∷ ms
down_here n m ms h = rw (le_true m n h) refl

down_past : (n m : ℕ) (ms : List ℕ) → n < m → insert_down n (m ∷ ms) ≡ m ∷ insert_down n ms
down_past n m ms h = rw (le_false m n h) refl

pub place_here : (n : ℕ) (ms : List ℕ) (at : ℕ) → at < length ms → slice_index_or ms at 0 ≤ n → insert_down n ms ≡ take at ms ++ insert_down n (drop at ms) → insert ms at n ≡ insert_down n ms
place_here n ms at lt le e =
    sym (e ∙ ap (λ xs. take at ms ++ xs) (ap (insert_down n) (cut ms at lt) ∙ down_here n (slice_index_or ms at 0) (drop (at + 1) ms) le ∙ ap (λ xs. n ∷ xs) (sym (cut ms at lt))))

pub place_next : (n : ℕ) (ms : List ℕ) (at : ℕ) → at < length ms → n < slice_index_or ms at 0 → insert_down n ms ≡ take at ms ++ insert_down n (drop at ms) →
    insert_down n ms ≡ take (at + 1) ms ++ insert_down n (drop (at + 1) ms)
place_next n ms at lt gt e =
    e ∙ ap (λ xs. take at ms ++ xs) (ap (insert_down n) (cut ms at lt) ∙ down_past n (slice_index_or ms at 0) (drop (at + 1) ms) gt)
    ∙ sym (append_assoc (take at ms) (slice_index_or ms at 0 ∷ []) (insert_down n (drop (at + 1) ms))) ∙ ap (λ xs. xs ++ insert_down n (drop (at + 1) ms)) (sym (more ms at lt))

drop_none : (ms : List ℕ) → drop (length ms) ms ≡ []
drop_none [] = refl
drop_none (m ∷ ms) = drop_none ms

down_none : (n : ℕ) (ms : List ℕ) → ms ≡ [] → insert_down n ms ≡ n ∷ ms
down_none n ms e = subst (λ xs. insert_down n xs ≡ n ∷ xs) (sym e) refl

pub place_end : (n : ℕ) (ms : List ℕ) (at : ℕ) → at ≡ length ms → insert_down n ms ≡ take at ms ++ insert_down n (drop at ms) → insert ms at n ≡ insert_down n ms
place_end n ms at over e = sym (e ∙ ap (λ xs. take at ms ++ xs) (down_none n (drop at ms) (ap (λ k. drop k ms) over ∙ drop_none ms)))

-- the numbers of the last ones are in their places
pub record IsRanked (f : Name → ℕ) (all rest : List Name) (sorted : List ℕ) : Type 0 where
  pub done : List Name
  pub split : all ≡ rest ++ done
  pub ranked : sorted ≡ descending (map f done)
  pub count : length sorted + length rest ≡ length all

pub ranked_start : (f : Name → ℕ) (all : List Name) (rest : List Name) (sorted : List ℕ) → rest ≡ all → sorted ≡ [] → IsRanked f all rest sorted
ranked_start f all rest sorted e s = record { done = []; split = sym (append-nil rest ∙ e); ranked = s; count = omega (arith, ap length e, ap length s) }

pub ranked_more : (f : Name → ℕ) (all rest before : List Name) (p : Name) (sorted sorted2 : List ℕ) (n : ℕ) → IsRanked f all rest sorted → rest ≡ before ++ p ∷ [] → n ≡ f p →
    sorted2 ≡ insert_down n sorted → length sorted2 ≡ length sorted + 1 → IsRanked f all before sorted2
ranked_more f all rest before p sorted sorted2 n is e num put long = record {
  done = p ∷ is.done;
  split = is.split ∙ ap (λ xs. xs ++ is.done) e ∙ append_assoc before (p ∷ []) is.done;
  ranked = put ∙ ap (λ k. insert_down k sorted) num ∙ ap (insert_down (f p)) is.ranked;
  count = omega (arith, long, is.count, ap length e, length-append before (p ∷ []));
}

pub ranked_end : (f : Name → ℕ) (all rest : List Name) (sorted : List ℕ) → IsRanked f all rest sorted → length rest ≡ 0 → sorted ≡ descending (map f all)
ranked_end f all [] sorted is e = is.ranked ∙ ap (λ ps. descending (map f ps)) (sym is.split)
ranked_end f all (p ∷ rest) sorted is e = absurd (omega arith)
