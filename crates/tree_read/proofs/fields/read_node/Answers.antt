-- `tree_read::fields::read_node` meets its contract. Assumes nothing.
use Rattle.std.proofs.Common.{rules, tests}
use Rattle.tree_read.proofs.Values.{left_all, missing, unreadable, read, behind, whole}
use Rattle.tree_read.proofs.fields.read_node.Goals as goal

pub returns-in_err-node : goal.returns-in_err-node
returns-in_err-node c =
    rw c.from_residual-in_err-node.ensures (unreadable _ _ c.next.new.self (left_all _ _ c.args.line.now c.map-values.ensures.source c.map-values.ensures.closure c.split.ensures.rest c.split.ensures.done c.split.ensures.closure (λ x b q k. search (rules, tests)) (λ x r q k. search rules)) c.in_ok-next.ensures.steps c.in_err-node.was)

pub returns-in_err-next-2 : goal.returns-in_err-next-2
returns-in_err-next-2 c =
    rw c.from_residual-in_err-next-2.ensures (missing _ _ c.next-2.new.self (read _ _ c.next.new.self
    (left_all _ _ c.args.line.now c.map-values.ensures.source c.map-values.ensures.closure c.split.ensures.rest c.split.ensures.done c.split.ensures.closure (λ x b q k. search (rules, tests)) (λ x r q k. search rules))
    c.in_ok-next.ensures.steps c.in_ok-node.was) c.in_err-next-2.ensures.steps)

pub returns-in_err-parent : goal.returns-in_err-parent
returns-in_err-parent c =
    rw c.from_residual-in_err-parent.ensures (unreadable _ _ c.next-2.new.self (read _ _ c.next.new.self
    (left_all _ _ c.args.line.now c.map-values.ensures.source c.map-values.ensures.closure c.split.ensures.rest c.split.ensures.done c.split.ensures.closure (λ x b q k. search (rules, tests)) (λ x r q k. search rules))
    c.in_ok-next.ensures.steps c.in_ok-node.was) c.in_ok-next-2.ensures.steps c.in_err-parent.was)

pub returns-in_err-next-3 : goal.returns-in_err-next-3
returns-in_err-next-3 c =
    rw c.from_residual-in_err-next-3.ensures (missing _ _ c.next-3.new.self (read _ _ c.next-2.new.self
    (read _ _ c.next.new.self
    (left_all _ _ c.args.line.now c.map-values.ensures.source c.map-values.ensures.closure c.split.ensures.rest c.split.ensures.done c.split.ensures.closure (λ x b q k. search (rules, tests)) (λ x r q k. search rules))
    c.in_ok-next.ensures.steps c.in_ok-node.was)
    c.in_ok-next-2.ensures.steps c.in_ok-parent.was) c.in_err-next-3.ensures.steps)

pub returns-in_err-burst : goal.returns-in_err-burst
returns-in_err-burst c =
    rw c.from_residual-in_err-burst.ensures (unreadable _ _ c.next-3.new.self (read _ _ c.next-2.new.self
    (read _ _ c.next.new.self
    (left_all _ _ c.args.line.now c.map-values.ensures.source c.map-values.ensures.closure c.split.ensures.rest c.split.ensures.done c.split.ensures.closure (λ x b q k. search (rules, tests)) (λ x r q k. search rules))
    c.in_ok-next.ensures.steps c.in_ok-node.was)
    c.in_ok-next-2.ensures.steps c.in_ok-parent.was) c.in_ok-next-3.ensures.steps c.in_err-burst.was)

pub returns-in_err-next-4 : goal.returns-in_err-next-4
returns-in_err-next-4 c =
    rw c.from_residual-in_err-next-4.ensures (missing _ _ c.next-4.new.self (read _ _ c.next-3.new.self
    (read _ _ c.next-2.new.self
    (read _ _ c.next.new.self
    (left_all _ _ c.args.line.now c.map-values.ensures.source c.map-values.ensures.closure c.split.ensures.rest c.split.ensures.done c.split.ensures.closure (λ x b q k. search (rules, tests)) (λ x r q k. search rules))
    c.in_ok-next.ensures.steps c.in_ok-node.was)
    c.in_ok-next-2.ensures.steps c.in_ok-parent.was)
    c.in_ok-next-3.ensures.steps c.in_ok-burst.was) c.in_err-next-4.ensures.steps)

pub returns-in_err-rate : goal.returns-in_err-rate
returns-in_err-rate c =
    rw c.from_residual-in_err-rate.ensures (unreadable _ _ c.next-4.new.self (read _ _ c.next-3.new.self
    (read _ _ c.next-2.new.self
    (read _ _ c.next.new.self
    (left_all _ _ c.args.line.now c.map-values.ensures.source c.map-values.ensures.closure c.split.ensures.rest c.split.ensures.done c.split.ensures.closure (λ x b q k. search (rules, tests)) (λ x r q k. search rules))
    c.in_ok-next.ensures.steps c.in_ok-node.was)
    c.in_ok-next-2.ensures.steps c.in_ok-parent.was)
    c.in_ok-next-3.ensures.steps c.in_ok-burst.was) c.in_ok-next-4.ensures.steps c.in_err-rate.was)

pub returns-in-Some : goal.returns-in-Some
returns-in-Some c =
    behind _ _ c.next-5.new.self (read _ _ c.next-4.new.self
    (read _ _ c.next-3.new.self
    (read _ _ c.next-2.new.self
    (read _ _ c.next.new.self
    (left_all _ _ c.args.line.now c.map-values.ensures.source c.map-values.ensures.closure c.split.ensures.rest c.split.ensures.done c.split.ensures.closure (λ x b q k. search (rules, tests)) (λ x r q k. search rules))
    c.in_ok-next.ensures.steps c.in_ok-node.was)
    c.in_ok-next-2.ensures.steps c.in_ok-parent.was)
    c.in_ok-next-3.ensures.steps c.in_ok-burst.was)
    c.in_ok-next-4.ensures.steps c.in_ok-rate.was) c.in-Some.ensures.steps

pub returns-in-None : goal.returns-in-None
returns-in-None c =
    whole _ _ c.next-5.new.self (read _ _ c.next-4.new.self
    (read _ _ c.next-3.new.self
    (read _ _ c.next-2.new.self
    (read _ _ c.next.new.self
    (left_all _ _ c.args.line.now c.map-values.ensures.source c.map-values.ensures.closure c.split.ensures.rest c.split.ensures.done c.split.ensures.closure (λ x b q k. search (rules, tests)) (λ x r q k. search rules))
    c.in_ok-next.ensures.steps c.in_ok-node.was)
    c.in_ok-next-2.ensures.steps c.in_ok-parent.was)
    c.in_ok-next-3.ensures.steps c.in_ok-burst.was)
    c.in_ok-next-4.ensures.steps c.in_ok-rate.was) c.in-None.ensures.steps
