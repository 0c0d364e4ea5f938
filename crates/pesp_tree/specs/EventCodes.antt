-- How proofs store the value of a board, so that they can tell values apart: each type by a code that gives it back.
use Rattle.std.specs.Prelude.{◌≡◌, ℕ, zero, suc, List, ℤ, Bool, Option, refl}
use Rattle.std.specs.Coded.{Coded, code_by, coded×, coded⊎, coded_ℕ, coded_ℤ, coded_bool, coded_list, coded_option}
use Rattle.std.proofs.Common.{◌⊎◌, inl, inr}
use Rattle.pesp_problem.specs.declared.row.SignedRow.{SignedRow}
use Rattle.pesp_problem.specs.declared.cut.Cut.{Cut}
use Rattle.pesp_problem.specs.declared.cut.Side.{Side}
use Rattle.pesp_network.specs.declared.row.NetRow.{NetRow}
use Rattle.pesp_network.specs.Networks.{NetworkValue}
use Rattle.pesp_truth.specs.Trees.{Tree}
use Rattle.pesp_truth.specs.Codes.{cut_code, side_code, tree_code}
use Rattle.pesp_nodes.specs.Problems.{ProblemValue}
use Rattle.pesp_tree.specs.States.{State, BoardValue, Ticket, Lent, Given, Recalled}

-- ---- numbers

-- a ticket as a sum: the path where a leaf is lent, else a number
abbrev pub ticket_to : Ticket → List (Cut × Side) ⊎ ℕ
ticket_to (Lent path) = inl path
ticket_to Given = inr 0
ticket_to Recalled = inr 1

-- the ticket of such a sum
abbrev pub ticket_from : List (Cut × Side) ⊎ ℕ → Ticket
ticket_from (inl path) = Lent path
ticket_from (inr zero) = Given
ticket_from (inr (suc n)) = Recalled

-- each ticket comes back from its sum
abbrev pub ticket_back : (t : Ticket) → ticket_from (ticket_to t) ≡ t
ticket_back (Lent path) = refl
ticket_back Given = refl
ticket_back Recalled = refl

-- the code of tickets
abbrev pub ticket_code : Coded Ticket
ticket_code = code_by (List (Cut × Side) ⊎ ℕ) (coded⊎ (coded_list (coded× cut_code side_code)) coded_ℕ) ticket_to ticket_from ticket_back

-- ---- states, problems and boards, each as the tuple of its fields

-- the code of states: a tree, the tickets by number, and the best times
abbrev pub state_code : Coded State
state_code = code_by (Tree × (List Ticket × Option (List ℕ)))
    (coded× tree_code (coded× (coded_list ticket_code) (coded_option (coded_list coded_ℕ))))
    (λ s. (s.tree, (s.numbers, s.best))) (λ x. record { tree = x.0; numbers = x.1.0; best = x.1.1 }) (λ _. refl)

-- the code of signed rows
abbrev pub signed_row_code : Coded SignedRow
signed_row_code = code_by (ℕ × Bool) (coded× coded_ℕ coded_bool) (λ s. (s.row, s.plus)) (λ x. record { row = x.0; plus = x.1 }) (λ _. refl)

-- the code of rows of a network, with their origins
abbrev pub net_row_code : Coded NetRow
net_row_code =
    code_by (ℕ × (ℕ × (ℤ × (ℕ × (ℕ × ℕ))))) (coded× coded_ℕ (coded× coded_ℕ (coded× coded_ℤ (coded× coded_ℕ (coded× coded_ℕ coded_ℕ)))))
    (λ r. (r.tail, (r.head, (r.lower, (r.span, (r.weight, r.origin))))))
    (λ x. record { tail = x.0; head = x.1.0; lower = x.1.1.0; span = x.1.1.1.0; weight = x.1.1.1.1.0; origin = x.1.1.1.1.1 }) (λ _. refl)

-- the code of networks
abbrev pub network_code : Coded NetworkValue
network_code =
    code_by (ℕ × (ℕ × (List NetRow × List ℕ))) (coded× coded_ℕ (coded× coded_ℕ (coded× (coded_list net_row_code) (coded_list coded_ℕ))))
    (λ n. (n.period, (n.events, (n.rows, n.forest))))
    (λ x. record { period = x.0; events = x.1.0; rows = x.1.1.0; forest = x.1.1.1 }) (λ _. refl)

-- the code of problems: a network and a table of cycles
abbrev pub problem_code : Coded ProblemValue
problem_code = code_by (NetworkValue × List (List SignedRow))
    (coded× network_code (coded_list (coded_list signed_row_code))) (λ p. (p.network, p.table))
    (λ x. record { network = x.0; table = x.1 }) (λ _. refl)

-- the code of boards: a problem and a state
abbrev pub board_code : Coded BoardValue
board_code = code_by (ProblemValue × State) (coded× problem_code state_code) (λ b. (b.problem, b.state))
    (λ x. record { problem = x.0; state = x.1 }) (λ _. refl)
