use Rattle.std.proofs.Common.{◌≡◌, ◌+◌, ◌%◌, ◌^◌}
use Rattle.dispatch_core.specs.Mix.{after_turns}
use Rattle.dispatch_core.proofs.kernel.MixKernelKernel.run.Given as goal

abbrev pub invariant-loop : goal.invariant-loop
invariant-loop l = l.x ≡ after_turns l.counter ((l.segment + l.input) % 2 ^ 64)
