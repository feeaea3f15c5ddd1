-- The messages on their way, by their list. Assumes nothing.
use Rattle.std.specs.Prelude.{◌≡◌, ℕ, cond, List, [], ◌∷◌, Some, None, vec_items, find, Option, ◌==◌}
use Rattle.stage.specs.declared.message.Machine.{Machine}
use Rattle.stage.specs.declared.message.Body.{Body}
use Rattle.stage.specs.declared.message.Message.{Message}
use Rattle.stage.specs.declared.post.Post.{Post}

abbrev pub on_way : Post → List Message
on_way p = vec_items p.on_way

abbrev pub sent_by : Machine → Machine → Body → Message → Type 0
sent_by a b x m = (m.from ≡ a) × (m.to ≡ b) × (m.body ≡ x)

abbrev pub found : ℕ → List Message → Option Message
found n ms = find (λ m. m.number == n) ms

abbrev pub without : ℕ → List Message → List Message
without n [] = []
without n (m ∷ ms) = cond (m.number == n) ms (m ∷ without n ms)

abbrev pub oldest : List Message → Option Message
oldest [] = None
oldest (m ∷ ms) = Some m
