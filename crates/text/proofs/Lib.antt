mod Pieced
mod Numbered
