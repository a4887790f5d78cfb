-- Controls in layers. A frame does what one function says; the machine may ask it to do all that another
-- function says first, without a frame for that. So a control is a list of places in functions, that of the
-- frame's own function last.
use Rattle.std.specs.Prelude.{ℕ, List, [], ◌∷◌, Option, Some, None}
use Rattle.php_machine.specs.Control.{Fetch, Silent, Act, Branch, Control}

-- how a place in one function goes on. L is the type of the places.
pub record Layer (A W L : Type 0) : Type 0 where
  -- a function's beginning
  pub start : ℕ → L
  -- none where nothing of the function is left
  pub fetch : L → Option (Fetch A L)
  -- where in the function a completion is served, if it is
  pub serve : W → L → Option L

-- where nothing is left of a function the one below goes on, and where none is, the frame is at its end
abbrev pub fetched_over : {A L : Type 0} → A → Option (Fetch A L) → L → List L → Fetch A (List L)
fetched_over end None l [] = Act end (l ∷ [])
fetched_over end None l (m ∷ ms) = Silent (m ∷ ms)
fetched_over end (Some (Silent next)) l ls = Silent (next ∷ ls)
fetched_over end (Some (Act a next)) l ls = Act a (next ∷ ls)
fetched_over end (Some (Branch then otherwise)) l ls = Branch (then ∷ ls) (otherwise ∷ ls)

abbrev pub served_over : {L : Type 0} → Option L → List L → Option (List L) → Option (List L)
served_over None ls below = below
served_over (Some next) ls below = Some (next ∷ ls)

module _ {A W L : Type 0} (end : A) (layer : Layer A W L) where
  abbrev pub fetch_layers : List L → Fetch A (List L)
  fetch_layers [] = Act end []
  fetch_layers (l ∷ ls) = fetched_over end (layer.fetch l) l ls

module _ {A W L : Type 0} (layer : Layer A W L) where
  -- what a function doesn't serve, the one below may
  abbrev pub serve_layers : W → List L → Option (List L)
  serve_layers why [] = None
  serve_layers why (l ∷ ls) = served_over (layer.serve why l) ls (serve_layers why ls)

-- the control whose places go on in this way, and whose frames end by this action
abbrev pub layered : {A W L : Type 0} → A → Layer A W L → Control A W (List L)
layered end layer = record {
  start = λ f. layer.start f ∷ [];
  inside = λ f ls. layer.start f ∷ ls;
  fetch = fetch_layers end layer;
  serve = serve_layers layer;
}
