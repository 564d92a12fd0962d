-- Totals: sums over all seats. Steps: what each step makes of the rule. Moves: the same, as the table asks for it.
mod Totals
mod Steps
mod Moves
