use Rattle.std.proofs.Common.{◌≡◌, [], ◌∷◌, codes, Ok, Err, OnOk}
use Rattle.drafts.specs.Stores.{seen}
use Rattle.books.specs.Examples.{meet_begun}
use Rattle.tour.proofs.Calls.{sort_declared, constructor_declared, function_declared}
use Rattle.tour.proofs.drafting.refuse_contents.Goals as goal

-- that each call leaves meet_begun is computed
pub returns : goal.returns
returns c =
    let malformed = sort_declared (codes "Level") c.declare_sort.ensures c.requires in
    let taken = sort_declared (codes "up") c.declare_sort-2.ensures malformed in
    let unknown = constructor_declared (codes "top") (9 ∷ []) 2 c.declare_constructor-unknown.ensures taken in
    let five = constructor_declared (codes "top") (2 ∷ 2 ∷ 2 ∷ 2 ∷ 2 ∷ []) 2 c.declare_constructor-five.ensures unknown in
    let third = constructor_declared (codes "maybe") [] 1 c.declare_constructor-third.ensures five in
    let none = function_declared (codes "idle") [] 2 0 c.declare_function-none.ensures third in
    elim c.tell-6.result as (λ r. OnOk r (seen c.declare_function-none.new.self ≡ meet_begun)) [ Ok x ↦ none | Err e ↦ tt ]
