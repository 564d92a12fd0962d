use Rattle.std.proofs.Common.{◌≡◌, ℕ, ◌+◌, ◌*◌, ◌%◌, ◌^◌, ◌<◌, ◌≤◌, Ok, get_or, take, sym, ap, ◌∙◌, arith, take_all, below_more, subst}
use Rattle.ante_pack.specs.Names.{number_of, choices, worth, number_from, name_number, name_of_text}
use Rattle.ante_pack.proofs.NameDigits.{room-more, shifted, number_from-more, found, not_found, top, top-positive}
use Rattle.ante_pack.proofs.NameReading.{reads-long, reads-bad, reads-last, reads-name}
use Rattle.ante_pack.proofs.names.name_from_text.Goals as goal

pub returns-then-bytes-gt13 : goal.returns-then-bytes-gt13
returns-then-bytes-gt13 c = sym (reads-long c.as_bytes-bytes.result.now c.if-bytes-gt13.true) ∙ ap name_of_text c.as_bytes-bytes.ensures.value

pub returns-in_default : goal.returns-in_default
returns-in_default c =
    let bytes = c.as_bytes-bytes.result.now in
    let none : number_of (get_or bytes c.loop-at.at 0) ≡ 32 = not_found (get_or bytes c.loop-at.at 0) (sym c.in_default.is ∙ c.symbol_of.ensures) in
    sym (reads-bad bytes c.loop-at.at c.if-bytes-gt13.false c.loop-at-test.true c.loop-at.invariant.letters none) ∙ ap name_of_text c.as_bytes-bytes.ensures.value

pub returns-then-symbol-choices : goal.returns-then-symbol-choices
returns-then-symbol-choices c =
    let bytes = c.as_bytes-bytes.result.now in
    let both = found (get_or bytes c.loop-at.at 0) c.in-Some.symbol (sym c.in-Some.is ∙ c.symbol_of.ensures) in
    let letter : number_of (get_or bytes c.loop-at.at 0) ≡ c.in-Some.symbol = both.0 in
    let late : choices c.loop-at.at ≤ number_of (get_or bytes c.loop-at.at 0) = omega arith in
    sym (reads-last bytes c.loop-at.at c.if-bytes-gt13.false c.loop-at-test.true c.loop-at.invariant.letters (omega (arith, both.1)) late) ∙ ap name_of_text c.as_bytes-bytes.ensures.value

pub overflow_add-number : goal.overflow_add-number
overflow_add-number c =
    let digit : ℕ = c.in-Some.symbol in
    let place : ℕ = c.loop-at.at in
    let lt : place < 13 = omega arith in
    let small : digit < choices place = omega arith in
    let part : digit * 2 ^ c.shift_of.result % 2 ^ 64 ≡ digit * worth place = shifted c.loop-at.number place digit c.shift_of.result lt small c.loop-at.invariant.room c.shift_of.ensures.worth in
    let room : c.loop-at.number + digit * worth place + top (place + 1) ≤ 2 ^ 64 = room-more c.loop-at.number place digit lt small c.loop-at.invariant.room in
    let pos : 0 < top (place + 1) = top-positive (place + 1) in
    rw part (omega arith)

pub loop-at-preserved : goal.loop-at-preserved
loop-at-preserved c =
    let bytes = c.as_bytes-bytes.result.now in
    let digit : ℕ = c.in-Some.symbol in
    let place : ℕ = c.loop-at.at in
    let lt : place < 13 = omega arith in
    let small : digit < choices place = omega arith in
    let letter : number_of (get_or bytes place 0) ≡ digit = (found (get_or bytes place 0) digit (sym c.in-Some.is ∙ c.symbol_of.ensures)).0 in
    let part : digit * 2 ^ c.shift_of.result % 2 ^ 64 ≡ digit * worth place = shifted c.loop-at.number place digit c.shift_of.result lt small c.loop-at.invariant.room c.shift_of.ensures.worth in
    rw part (record {
      number =
          ap (λ n. n + digit * worth place) c.loop-at.invariant.number
          ∙ ap (λ d. number_from 0 (take place bytes) + d * worth place) (sym letter)
          ∙ sym (number_from-more bytes place c.loop-at-test.true);
      letters = below_more (λ k. number_of (get_or bytes k 0) < choices k) place c.loop-at.invariant.letters (subst (λ (n : ℕ). n < choices place) (sym letter) small);
      room = room-more c.loop-at.number place digit lt small c.loop-at.invariant.room;
    })

pub returns : goal.returns
unfolding name_number
returns c =
    let bytes = c.as_bytes-bytes.result.now in
    let all : take c.loop-at.at bytes ≡ bytes = take_all c.loop-at.at bytes c.loop-at-test.false in
    let number : c.loop-at.number ≡ name_number bytes = c.loop-at.invariant.number ∙ ap (number_from 0) all in
    ap (λ (n : ℕ). Ok (record { 0 = n })) number
    ∙ sym (reads-name bytes c.if-bytes-gt13.false (λ k less. c.loop-at.invariant.letters k (omega arith)))
    ∙ ap name_of_text c.as_bytes-bytes.ensures.value
