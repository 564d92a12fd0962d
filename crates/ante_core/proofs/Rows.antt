-- What follows from a row that stands.
use Rattle.std.proofs.Common.{◌≡◌, ℕ, List, Option, Some, None, slice_get, option_map, option_and_then, refl}
use Rattle.std.proofs.lemmas.Option.{none-some, same_Some}
use Rattle.ante_core.specs.declared.window.Held.{Held}
use Rattle.ante_core.specs.Machine.{Meaning, State, WindowState, held_by, with_window, in_window, next_held, after_piece, with_window_and_done, advance_row}

-- a value that `option_map` gave
pub record Mapped {A B : Type 0} (f : A → B) (o : Option A) (y : B) : Type 0 where
  pub value : A
  pub is : o ≡ Some value
  pub gives : f value ≡ y

pub mapped : {A B : Type 0} (f : A → B) (o : Option A) (y : B) → option_map f o ≡ Some y → Mapped f o y
mapped f None y e = absurd (none-some y e)
mapped f (Some x) y e = record { value = x; is = refl; gives = same_Some (f x) y e }

-- a value that `option_and_then` gave
pub record Chained {A B : Type 0} (f : A → Option B) (o : Option A) (y : B) : Type 0 where
  pub value : A
  pub is : o ≡ Some value
  pub gives : f value ≡ Some y

pub chained : {A B : Type 0} (f : A → Option B) (o : Option A) (y : B) → option_and_then f o ≡ Some y → Chained f o y
chained f None y e = absurd (none-some y e)
chained f (Some x) y e = record { value = x; is = refl; gives = e }

-- a row that asks for a window and changes nothing outside it
pub record InWindow {W J F R : Type 0} (s : State W J F R) (row : WindowState F → Option (WindowState F)) (new : State W J F R) : Type 0 where
  pub was : WindowState F
  pub becomes : WindowState F
  pub is_window : s.window ≡ Some was
  pub stands : row was ≡ Some becomes
  pub is_new : with_window s becomes ≡ new

pub in_window-some : {W J F R : Type 0} (s : State W J F R) (row : WindowState F → Option (WindowState F)) (new : State W J F R) → in_window s row ≡ Some new → InWindow s row new
in_window-some s row new e =
    let o = mapped (with_window s) (option_and_then row s.window) new e in
    let c = chained row s.window o.value o.is in
    record { was = c.value; becomes = o.value; is_window = c.is; stands = c.gives; is_new = o.gives }

-- the next job of the window's list
pub record IsNext {W X J F R : Type 0} (m : Meaning W X J F R) (world : W) (jobs : List J) (reader : ℕ) (w : WindowState F) (h : Held F) : Type 0 where
  pub job : ℕ
  pub value : J
  pub listed : slice_get w.listed w.drawn ≡ Some job
  pub is_value : slice_get jobs job ≡ Some value
  pub is : record { reader = reader; job = job; frame = m.begun world value } ≡ h

pub next_held-some : {W X J F R : Type 0} (m : Meaning W X J F R) (world : W) (jobs : List J) (reader : ℕ) (w : WindowState F) (h : Held F) → next_held m world jobs reader w ≡ Some h → IsNext m world jobs reader w h
next_held-some m world jobs reader w h e =
    let c = chained (λ job. option_map (λ value. record { reader = reader; job = job; frame = m.begun world value }) (slice_get jobs job)) (slice_get w.listed w.drawn) h e in
    let o = mapped (λ value. record { reader = reader; job = c.value; frame = m.begun world value }) (slice_get jobs c.value) h c.gives in
    record { job = c.value; value = o.value; listed = c.is; is_value = o.is; is = o.gives }

-- a piece of a reader's job
pub record Advanced {W X J F R : Type 0} (m : Meaning W X J F R) (s : State W J F R) (reader : ℕ) (new : State W J F R) : Type 0 where
  pub was : WindowState F
  pub held : Held F
  pub is_window : s.window ≡ Some was
  pub is_held : held_by reader was.held ≡ Some held
  pub is_new : with_window_and_done s (after_piece reader s.position (was, s.done) held (m.advanced s.world held.frame)) ≡ new

pub advance_row-some : {W X J F R : Type 0} (m : Meaning W X J F R) (s : State W J F R) (reader : ℕ) (new : State W J F R) → advance_row m s reader ≡ Some new → Advanced m s reader new
advance_row-some m s reader new e =
    let c = chained (λ w. option_map (with_window_and_done s) (option_map (λ h. after_piece reader s.position (w, s.done) h (m.advanced s.world h.frame)) (held_by reader w.held))) s.window new e in
    let o = mapped (with_window_and_done s) (option_map (λ h. after_piece reader s.position (c.value, s.done) h (m.advanced s.world h.frame)) (held_by reader (c.value).held)) new c.gives in
    let h = mapped (λ h. after_piece reader s.position (c.value, s.done) h (m.advanced s.world h.frame)) (held_by reader (c.value).held) o.value o.is in
    record { was = c.value; held = h.value; is_window = c.is; is_held = h.is; is_new = rw h.gives o.gives }
