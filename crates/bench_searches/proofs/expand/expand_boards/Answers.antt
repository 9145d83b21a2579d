use Rattle.std.proofs.Common.{◌∙◌}
use Rattle.bench_searches.proofs.expand.expand_boards.Goals as goal

pub boards-preserved : goal.boards-preserved
boards-preserved c =
    let serves = c.refill.ensures.serves in
    let keeps = c.expand.ensures.keeps in (
      record {
        workers = keeps.workers ∙ serves.workers;
        guided = (serves.guided.0, serves.guided.1, keeps.guided serves.guided.0 serves.guided.1 serves.guided.2);
      },
      keeps.granted ∙ c.refill.ensures.counted,
      c.expand.ensures.ahead,
    )
